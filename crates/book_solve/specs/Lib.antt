pub mod Solved
pub mod Crews
pub mod Laws
