pub mod Rows
pub mod Known
pub mod Asked
pub mod Widths
pub mod Counts
pub mod Levels
pub mod Slashes
