pub mod CopyTables
pub mod Entries
pub mod HeldBooks
pub mod HeldReplicas
pub mod HeldWorlds
pub mod PlanSteps
pub mod WorldLaws
