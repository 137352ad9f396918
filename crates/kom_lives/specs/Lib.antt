pub mod Laws
pub mod Living
