pub mod Numbers
pub mod Flattened
pub mod Places
pub mod Derived
pub mod ThinCalls
pub mod Runs
pub mod Accepted
