pub mod Digit
pub mod Spelt
