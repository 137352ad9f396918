pub mod Kin
pub mod Ports
pub mod Selectors
