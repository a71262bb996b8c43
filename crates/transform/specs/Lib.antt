pub mod Derive
pub mod Accepted
pub mod Refusals
pub mod Picking
