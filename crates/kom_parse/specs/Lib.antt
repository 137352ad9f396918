pub mod Lexemes
pub mod Input
pub mod Rules
pub mod Spelled
pub mod Answers
