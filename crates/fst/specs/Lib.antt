pub mod Refusal
pub mod Record
pub mod Change
pub mod Adding
