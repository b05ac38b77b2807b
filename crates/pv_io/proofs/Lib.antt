mod Pieces
pub mod Fronts
