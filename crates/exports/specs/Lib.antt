pub mod Check
pub mod Cleaned
pub mod Determined
pub mod Heard
pub mod Packet
pub mod Slots
pub mod Text
pub mod Written
