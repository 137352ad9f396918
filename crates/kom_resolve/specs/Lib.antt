pub mod Attributed
pub mod Counted
pub mod Flat
pub mod Resolved
