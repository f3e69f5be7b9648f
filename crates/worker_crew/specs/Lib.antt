pub mod Crews
pub mod Workers
