pub mod Hands
pub mod Pairs
pub mod Says
