pub mod Names
pub mod Texts
pub mod Lines
pub mod Exprs
pub mod Stmts
pub mod Items
pub mod Files
