pub mod Text
pub mod Digits
pub mod Slice
pub mod Level
pub mod Page
pub mod Answer
