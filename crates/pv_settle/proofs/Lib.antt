pub mod Making
pub mod Halving
