pub mod Firsts
pub mod Blocks
pub mod Exprs
