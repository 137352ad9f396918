pub mod Found
pub mod Promises
pub mod Runs
pub mod Top
pub mod Words
