pub mod Canonical
pub mod Searches
pub mod Systems
pub mod Terms
