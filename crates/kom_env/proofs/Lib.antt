pub mod Ties
pub mod Rising
pub mod Indexing
pub mod Listing
pub mod Leasts
pub mod Finding
pub mod Placing
pub mod Pending
