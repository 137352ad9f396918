pub mod Firsts
pub mod Laws
pub mod Points
pub mod States
pub mod Steps
pub mod Within
