pub mod Laws
pub mod Preparing
pub mod Spaces
