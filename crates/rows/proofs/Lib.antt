pub mod Examples
pub mod Laws
pub mod Longest
pub mod Records
pub mod Rows
pub mod Texts
