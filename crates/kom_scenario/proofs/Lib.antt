pub mod Least
pub mod Looking
pub mod Fitting
pub mod Sizes
pub mod Lateness
pub mod Soundness
pub mod Exact
pub mod Placing
