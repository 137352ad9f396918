pub mod Acting
pub mod Counted
