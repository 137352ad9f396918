pub mod Adding
pub mod Chains
pub mod Ending
pub mod Felling
pub mod Unlinking
pub mod Views
