pub mod Counting
pub mod Crossing
pub mod Crowds
pub mod Ending
pub mod Places
pub mod Pushing
pub mod Records
pub mod WellFormed
