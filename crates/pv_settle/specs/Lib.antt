pub mod Choosing
pub mod Geometry
pub mod Laws
pub mod Rules
pub mod Settlers
pub mod Spelling
pub mod Settling
