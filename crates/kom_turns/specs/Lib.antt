pub mod Runs
pub mod Items
pub mod Lefts
