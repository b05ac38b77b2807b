pub mod Merges
pub mod Shares
pub mod StatusLaws
pub mod CampaignLaws
pub mod Headline
pub mod Stored
pub mod Complete
pub mod Sets
