pub mod Drawn
pub mod Planes
