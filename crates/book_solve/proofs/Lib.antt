pub mod Opened
pub mod Determined
pub mod Finished
pub mod Lines
pub mod Rows
pub mod Turns
pub mod InOrder
pub mod OfWorkers
