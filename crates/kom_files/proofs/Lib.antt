pub mod Headers
pub mod RowWhole
pub mod Texts
pub mod Once
