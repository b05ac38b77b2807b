pub mod Fractions
pub mod Bounds
pub mod Points
pub mod Tables
pub mod Inclusion
pub mod Subsets
