pub mod Headers
pub mod Files
