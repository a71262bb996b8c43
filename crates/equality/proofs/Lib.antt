pub mod Rows
pub mod Floats
pub mod Comparing
pub mod Agreeing
