pub mod Body
pub mod Host
pub mod Notice
pub mod Perform
pub mod Record
pub mod Step
