pub mod All
pub mod Joined
pub mod Laid
pub mod Runs
pub mod Demand3
pub mod RunExample
pub mod Histories
