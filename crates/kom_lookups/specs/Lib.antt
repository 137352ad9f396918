pub mod Numbered
pub mod Tabled
