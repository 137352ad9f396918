pub mod Contents
pub mod Fitting
pub mod Statements
pub mod WellFormed
