pub mod Bringing
pub mod Ports
pub mod Moving
pub mod Noting
