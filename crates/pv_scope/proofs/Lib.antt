pub mod Replaced
pub mod Lists
pub mod Going
pub mod Ahead
pub mod Settled
pub mod Whole
pub mod Passes
pub mod Joins
