pub mod Bounded
pub mod Copies
pub mod CopyExamples
pub mod Proved
