pub mod KeywordSteps
pub mod StmtReads
pub mod StmtSteps
pub mod StmtWhole
pub mod Exact
