pub mod Agrees
pub mod Bodies
pub mod Effects
pub mod Laws
