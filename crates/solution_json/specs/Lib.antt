pub mod Edges
pub mod Faults
pub mod Forms
pub mod Members
pub mod Texts
