pub mod Joined
pub mod Earlier
pub mod Openings
