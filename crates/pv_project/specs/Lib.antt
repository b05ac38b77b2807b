pub mod Projections
pub mod Kept
pub mod Rests
