pub mod Marked
pub mod Keeping
pub mod Absorbing
pub mod Runs
pub mod Wholes
pub mod Answers
pub mod Ends
pub mod Once
