pub mod Pavings
pub mod Accounts
pub mod Boards
pub mod Leaves
pub mod Facts
