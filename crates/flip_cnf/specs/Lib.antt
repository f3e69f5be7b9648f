pub mod Building
pub mod HeldFrames
pub mod Kinds
