pub mod Boxes
pub mod Choice
pub mod QHull
pub mod Members
