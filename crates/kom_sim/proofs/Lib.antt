mod Counts
mod Lines
mod Orders
mod Records
mod Handled
pub mod Jobs
