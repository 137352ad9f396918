pub mod Firsts
pub mod Keys
pub mod Outside
pub mod Placed
pub mod Raised
pub mod Seen
pub mod Sound
pub mod Waiting
