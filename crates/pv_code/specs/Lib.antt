pub mod Expansion
pub mod Fractions
pub mod Sizes
pub mod Values
