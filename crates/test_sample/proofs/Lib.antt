pub mod Cutting
pub mod Heights
pub mod Growing
