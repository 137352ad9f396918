pub mod Handlings
pub mod Faults
