pub mod Nested
pub mod Sized
