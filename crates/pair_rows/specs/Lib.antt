pub mod Laws
pub mod Rows
pub mod Tries
pub mod Versions
