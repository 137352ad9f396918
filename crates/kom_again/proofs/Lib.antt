pub mod Sound
pub mod Unbroken
pub mod Again
