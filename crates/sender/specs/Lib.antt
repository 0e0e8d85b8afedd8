pub mod Image
pub mod Made
pub mod Meaning
pub mod Packet
pub mod Request
