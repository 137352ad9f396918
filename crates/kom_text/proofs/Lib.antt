pub mod Decimals
pub mod Firsts
pub mod Cuts
pub mod Once
