pub mod Inputs
pub mod Steps
pub mod Refusals
pub mod Stepping
pub mod Cursor
pub mod Storing
pub mod Room
