pub mod Trees
pub mod Born
pub mod Acts
pub mod Small
pub mod Handling
pub mod Reacting
pub mod Records
pub mod Takes
