pub mod Pieces
pub mod Lines
pub mod Writing
pub mod Formats
