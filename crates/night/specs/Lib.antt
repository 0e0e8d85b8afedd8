pub mod Call
pub mod Judge
pub mod Lent
pub mod Name
pub mod Record
