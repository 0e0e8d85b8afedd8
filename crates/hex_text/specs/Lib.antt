pub mod Spell
pub mod Meaning
pub mod Places
pub mod Read
pub mod Record
