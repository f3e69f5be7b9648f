pub mod Best
pub mod BoundExamples
pub mod Distinct
pub mod Proved
