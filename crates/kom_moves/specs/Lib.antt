pub mod Bringing
pub mod Moved
