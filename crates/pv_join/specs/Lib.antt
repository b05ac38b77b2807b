pub mod Joins
pub mod Audits
pub mod Meetings
