pub mod Ancestors
pub mod Attributed
pub mod Entries
pub mod Numbered
