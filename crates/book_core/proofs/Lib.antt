mod Caught
mod Copied
pub mod Crossing
mod Following
mod Grown
mod Kept
pub mod Leading
mod Listed
mod Offered
mod Opened
mod Swapped
pub mod Tables
mod Worlds
