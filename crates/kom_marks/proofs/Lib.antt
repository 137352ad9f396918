pub mod Marking
pub mod Rising
pub mod Settled
pub mod Settling
