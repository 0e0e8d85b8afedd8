pub mod Determined
pub mod Hearing
pub mod Taking
pub mod Telling
