pub mod Readers
pub mod RowSteps
pub mod Whole
pub mod Exact
