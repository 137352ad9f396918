pub mod Roomier
pub mod Passive
