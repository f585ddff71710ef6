pub mod Records
pub mod Lines
pub mod Output
pub mod Pieces
