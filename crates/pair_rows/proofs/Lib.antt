pub mod Climbing
pub mod Formulas
pub mod RowLaws
