pub mod Scopes
pub mod Parts
pub mod Settlings
pub mod Orders
