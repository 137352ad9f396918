pub mod Pieces
pub mod Numbers
pub mod Places
pub mod Found
pub mod Answers
