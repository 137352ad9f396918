pub mod Listing
pub mod Deciding
mod Idle
