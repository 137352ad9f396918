pub mod WordSteps
pub mod ListSteps
pub mod ItemReads
pub mod ItemWhole
pub mod Exact
