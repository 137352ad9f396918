pub mod Ancestry
pub mod Typed
