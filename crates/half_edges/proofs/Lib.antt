pub mod Halves
pub mod Ways
