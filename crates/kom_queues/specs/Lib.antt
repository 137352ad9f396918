pub mod Fronts
pub mod Slots
pub mod Sound
pub mod Waiting
