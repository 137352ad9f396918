pub mod Lawful
pub mod Unsettled
