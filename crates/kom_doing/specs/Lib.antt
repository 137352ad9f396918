pub mod Effects
pub mod Laws
pub mod Marks
pub mod Rooms
