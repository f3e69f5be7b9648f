pub mod Appending
pub mod Entries
pub mod Found
pub mod Kept
pub mod Places
pub mod Quads
pub mod Sides
pub mod Whole
