pub mod Sockets
pub mod Sound
pub mod Wires
