pub mod BySlots
pub mod Living
pub mod Putting
