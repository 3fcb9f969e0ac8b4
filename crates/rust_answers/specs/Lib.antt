pub mod Recording
pub mod Answers
pub mod Counting
