pub mod Beginning
pub mod Counting
pub mod Enacted
pub mod Shown
