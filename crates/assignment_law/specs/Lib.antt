pub mod Assignments
pub mod Laws
