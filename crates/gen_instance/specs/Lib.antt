pub mod Generated
pub mod Laws
pub mod Orders
pub mod Sides
pub mod Sweeping
