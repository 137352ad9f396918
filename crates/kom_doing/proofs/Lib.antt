pub mod Cases
pub mod Left
pub mod Marked
pub mod Reserved
pub mod Rooms
pub mod Steps
pub mod Turn
