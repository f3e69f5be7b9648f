pub mod Bounds
pub mod Counted
pub mod FirstGreatest
pub mod Starts
pub mod WalkCounts
pub mod Walking
pub mod Ways
