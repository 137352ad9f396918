pub mod Ends
pub mod Events
pub mod Inits
pub mod Types
pub mod Jobs
pub mod Taken
pub mod Passing
