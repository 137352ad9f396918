pub mod Steps
pub mod Removes
pub mod Fits
