pub mod Declarations
pub mod Values
pub mod Steps
pub mod Bodies
pub mod Compute
