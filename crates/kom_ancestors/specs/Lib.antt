pub mod Far
pub mod Passed
