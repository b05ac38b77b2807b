pub mod Resumed
pub mod Audited
