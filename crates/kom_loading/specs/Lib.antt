pub mod Loading
pub mod Scenarios
