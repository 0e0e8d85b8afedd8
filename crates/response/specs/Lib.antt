pub mod Response
pub mod Said
pub mod Six
