pub mod Chains
pub mod Counts
pub mod Follows
pub mod Groups
pub mod Slots
pub mod States
pub mod Tracks
