pub mod Ends
pub mod OnlyRead
