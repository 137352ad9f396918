pub mod Drawn
pub mod Expansion
