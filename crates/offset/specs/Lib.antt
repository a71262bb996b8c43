pub mod Offset
pub mod Search
