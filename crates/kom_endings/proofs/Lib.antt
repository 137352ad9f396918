pub mod Hands
pub mod Dids
pub mod Destroyed
