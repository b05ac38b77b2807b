pub mod Decimals
pub mod Exists
pub mod Numerals
pub mod OneRatio
pub mod Powers
pub mod Slices
pub mod Unique
