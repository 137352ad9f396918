pub mod Levels
pub mod Prefixes
