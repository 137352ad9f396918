pub mod Carried
pub mod Ended
pub mod Roomy
pub mod Whole
