pub mod Outside
pub mod Scripted
pub mod Shelf
pub mod Answers
pub mod Real
