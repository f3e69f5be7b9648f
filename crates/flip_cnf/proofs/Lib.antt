pub mod Asked
pub mod Changing
pub mod Meaning
pub mod Variables
pub mod Writing
