pub mod Examples
pub mod Pieces
pub mod Joins
pub mod Walks
