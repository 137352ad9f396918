pub mod Breaks
pub mod Known
