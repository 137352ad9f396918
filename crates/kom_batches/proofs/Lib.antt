pub mod Ported
pub mod Queued
pub mod Short
