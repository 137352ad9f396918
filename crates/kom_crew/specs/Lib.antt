pub mod Crews
pub mod Parts
pub mod Seated
pub mod Workers
