pub mod Firsts
pub mod Fronting
pub mod Sides
