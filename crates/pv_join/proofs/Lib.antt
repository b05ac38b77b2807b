pub mod Shapes
pub mod JoinFacts
pub mod Overlays
pub mod AuditFacts
pub mod JoinLaws
pub mod Meetings
