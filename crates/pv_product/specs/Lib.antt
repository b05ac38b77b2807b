pub mod Files
pub mod Views
pub mod Leasts
pub mod Campaigns
pub mod Products
pub mod Made
pub mod Ends
pub mod Printing
