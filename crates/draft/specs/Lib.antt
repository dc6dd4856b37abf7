pub mod Apart
pub mod Views
pub mod Stored
pub mod Props
pub mod Drafts
