pub mod Rows
pub mod Search
pub mod Offsets
pub mod Before
