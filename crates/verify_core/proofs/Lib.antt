mod Bounds
pub mod Clear
mod Ends
mod Formulas
mod OneFault
mod Truths
mod RowParts
mod RowSteps
