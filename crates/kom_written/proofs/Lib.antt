pub mod Numbers
pub mod Steps
pub mod Exprs
pub mod Lists
pub mod Stmts
pub mod Items
pub mod Rows
pub mod Files
