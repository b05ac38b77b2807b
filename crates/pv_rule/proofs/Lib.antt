pub mod Fetches
pub mod Sets
pub mod Spelled
