pub mod Waiting
pub mod Spans
pub mod Wires
