pub mod Below
pub mod Created
pub mod Others
pub mod Relinked
pub mod Sowing
