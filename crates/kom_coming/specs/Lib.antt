pub mod Directions
pub mod Laws
