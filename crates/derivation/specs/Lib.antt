pub mod Piece
pub mod Answer
