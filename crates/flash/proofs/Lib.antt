pub mod Blanks
pub mod Changes
pub mod Received
pub mod Sectors
pub mod Stores
pub mod Sweeps
pub mod Words
pub mod Writes
