pub mod Few
pub mod Sampled
