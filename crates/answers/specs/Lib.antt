pub mod Answers
pub mod Checks
