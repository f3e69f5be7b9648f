pub mod HeldPlans
pub mod Laws
pub mod States
pub mod Steps
pub mod SwapFaults
pub mod Trials
