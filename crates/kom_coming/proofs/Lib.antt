pub mod Counted
pub mod Fitting
pub mod Little
pub mod Receiving
pub mod Rooms
pub mod There
