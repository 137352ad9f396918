pub mod Lineage
pub mod Lives
pub mod Plugged
pub mod Single
