pub mod Line
pub mod Room
pub mod Spelt
pub mod Text
