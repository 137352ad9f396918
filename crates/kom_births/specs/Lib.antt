pub mod Laws
pub mod Seeds
pub mod Sharing
pub mod Sowing
pub mod Sprouts
