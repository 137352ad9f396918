pub mod Counts
pub mod Gathering
pub mod Guests
pub mod Lots
pub mod Rule
pub mod Stores
