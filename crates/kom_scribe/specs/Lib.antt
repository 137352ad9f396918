pub mod Drafts
pub mod Effects
pub mod Entries
