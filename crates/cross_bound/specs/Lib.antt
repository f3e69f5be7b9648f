pub mod Best
pub mod Bounds
pub mod Walks
