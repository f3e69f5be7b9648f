pub mod Once
pub mod Rows
pub mod Steps
