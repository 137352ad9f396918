pub mod Emptied
pub mod Guested
pub mod Keeping
pub mod Lending
pub mod Merging
pub mod Same
pub mod Stolen
pub mod Summed
