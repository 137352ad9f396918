pub mod Firsts
pub mod Plugging
