mod Broods
mod Prepared
pub mod Tops
