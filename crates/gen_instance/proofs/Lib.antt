mod Bounds
mod Inputs
mod Keys
pub mod Once
mod Members
mod Orders
mod Passing
mod Seen
mod Strips
mod Words
