pub mod Duos
pub mod Placing
pub mod Turns
