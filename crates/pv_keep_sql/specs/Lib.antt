pub mod Counting
pub mod Keepers
pub mod Digits
pub mod Crashes
