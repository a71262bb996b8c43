pub mod Decode
pub mod Read
pub mod Parts
pub mod Packed
pub mod Vectors
