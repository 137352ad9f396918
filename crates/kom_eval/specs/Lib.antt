pub mod Answers
pub mod Handlers
pub mod Selected
pub mod Wanted
