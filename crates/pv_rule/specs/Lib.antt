pub mod Systems
pub mod Pavings
