pub mod Exprs
pub mod Gathered
pub mod Numbered
pub mod Rows
