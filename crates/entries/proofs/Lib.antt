pub mod LastEntry
pub mod Reals
