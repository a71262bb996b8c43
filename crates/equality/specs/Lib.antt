pub mod Compare
pub mod Pairs
