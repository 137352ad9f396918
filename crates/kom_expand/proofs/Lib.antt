pub mod Runs
pub mod Onward
pub mod Sorting
pub mod Fits
