pub mod Spending
pub mod Interrupted
pub mod Ordered
