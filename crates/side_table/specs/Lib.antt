pub mod Chains
pub mod Sides
pub mod Slots
