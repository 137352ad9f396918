pub mod Forest
pub mod Parts
pub mod Sound
pub mod Steps
