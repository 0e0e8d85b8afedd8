pub mod Image
pub mod Making
pub mod Packets
pub mod Refusals
