pub mod Again
pub mod Beside
pub mod Courses
pub mod Keeping
pub mod Leading
