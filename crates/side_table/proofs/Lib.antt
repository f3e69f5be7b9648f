pub mod Chains
pub mod Ordered
pub mod Orders
pub mod Parts
pub mod Places
