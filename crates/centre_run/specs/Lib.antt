pub mod Calls
pub mod Ends
pub mod Orders
pub mod Runs
pub mod Solvers
pub mod Statuses
