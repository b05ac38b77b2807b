pub mod Meets
pub mod HalfRests
pub mod Same
pub mod Kept
pub mod Roots
pub mod RootsKept
