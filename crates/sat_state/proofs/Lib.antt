pub mod Counting
pub mod Indexing
pub mod Levels
pub mod Pieces
pub mod Settling
pub mod States
pub mod Stepping
pub mod Tabling
