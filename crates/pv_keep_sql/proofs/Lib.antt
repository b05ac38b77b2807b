pub mod Paths
pub mod Crashes
