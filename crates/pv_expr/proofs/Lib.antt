pub mod Lines
pub mod Outward
