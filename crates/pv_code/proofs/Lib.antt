pub mod Building
pub mod Constraints
pub mod Leaving
pub mod Moving
pub mod Over
pub mod Sizing
pub mod Wide
