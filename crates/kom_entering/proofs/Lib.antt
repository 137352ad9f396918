pub mod Noting
pub mod OneMore
pub mod Outward
pub mod Plain
pub mod Spread
pub mod Whole
