pub mod BoundLaws
pub mod Legs
pub mod SplitLaws
pub mod Splits
pub mod StarFormula
pub mod StarLaws
pub mod StarRows
pub mod Stars
