pub mod Answers
pub mod Draws
pub mod Improved
pub mod Rounds
pub mod Settlings
pub mod Singles
pub mod Ways
