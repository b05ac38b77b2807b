pub mod Going
pub mod Holding
