pub mod Answers
pub mod Faults
pub mod Files
pub mod Memory
pub mod Names
pub mod Texts
