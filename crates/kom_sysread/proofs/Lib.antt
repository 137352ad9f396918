pub mod Rows
pub mod FileReads
pub mod RowSteps
pub mod FileWhole
pub mod Exact
pub mod Once
