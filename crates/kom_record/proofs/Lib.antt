pub mod Hands
pub mod OffersAt
pub mod Positions
