pub mod Chains
pub mod Crossed
pub mod Groups
pub mod Numbered
pub mod Queries
pub mod Sizes
