pub mod ByItems
pub mod Declarations
pub mod Faults
pub mod Fractions
pub mod Meanings
pub mod Scopes
pub mod Sentences
pub mod Views
