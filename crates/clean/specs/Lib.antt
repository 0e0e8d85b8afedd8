pub mod Clean
pub mod Meaning
pub mod Old
pub mod Promises
pub mod Runs
pub mod Sectors
pub mod Walk
pub mod Wrong
