pub mod Lines
pub mod VerifyLines
