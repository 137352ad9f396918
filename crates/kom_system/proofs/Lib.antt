pub mod Levels
pub mod Numbered
pub mod Smallest
pub mod Limits
