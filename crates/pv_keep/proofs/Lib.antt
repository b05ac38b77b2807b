mod Orders
mod Stepping
mod RowOrder
mod Shuffles
pub mod Placing
pub mod Leaves
mod Making
mod Fresh
mod Opening
mod Rounding
mod Reopened
