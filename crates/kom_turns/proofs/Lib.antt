pub mod Standing
pub mod Taking
pub mod Arriving
pub mod Leaving
pub mod Counting
pub mod Running
