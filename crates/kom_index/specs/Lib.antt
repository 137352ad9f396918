pub mod Entries
pub mod Shape
pub mod Sound
pub mod Stock
