pub mod Entry
pub mod Writable
pub mod Expand
pub mod Blocks
