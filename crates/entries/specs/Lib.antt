pub mod Repeats
pub mod Repeatable
