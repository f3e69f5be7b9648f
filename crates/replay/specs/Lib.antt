pub mod Ends
pub mod Faults
pub mod Independent
pub mod Laws
pub mod Scores
pub mod Steps
