pub mod Answers
pub mod Responses
pub mod Six
