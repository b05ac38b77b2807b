pub mod Points
pub mod Objectives
pub mod Candidates
pub mod Searches
pub mod Running
pub mod Promises
