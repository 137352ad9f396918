pub mod Below
pub mod Ends
pub mod Laws
pub mod Relinks
pub mod Sown
