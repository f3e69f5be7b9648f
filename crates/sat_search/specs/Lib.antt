pub mod Answers
pub mod Choices
pub mod Lessons
pub mod Resolutions
