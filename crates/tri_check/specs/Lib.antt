pub mod Accepted
pub mod Faults
pub mod Hulls
pub mod Layouts
pub mod Problems
pub mod Stages
pub mod Tables
