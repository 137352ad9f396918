pub mod Unplaced
pub mod Tokens
pub mod Declarations
pub mod Again
