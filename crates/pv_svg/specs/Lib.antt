pub mod Planes
pub mod Pixels
pub mod Rectangles
pub mod Texts
pub mod Pieces
pub mod Paints
pub mod Shows
