pub mod Formats
pub mod Formatted
pub mod HonestStages
