pub mod Flips
pub mod Shifts
pub mod Stages
pub mod Sums
pub mod Trees
pub mod Zeros
