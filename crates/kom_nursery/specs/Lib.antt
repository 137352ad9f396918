pub mod Laws
pub mod Nurseries
pub mod Tops
