pub mod Number
pub mod Parts
