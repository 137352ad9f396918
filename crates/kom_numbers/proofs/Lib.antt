pub mod Adding
pub mod Ownership
