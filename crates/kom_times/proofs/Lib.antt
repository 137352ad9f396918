pub mod Asked
pub mod Moving
pub mod Outward
pub mod Room
pub mod Standing
