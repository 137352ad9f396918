pub mod NameSteps
pub mod NameLaws
pub mod NumberSteps
pub mod Steps
pub mod ExprReads
pub mod ExprWhole
pub mod ExprSteps
pub mod Exact
