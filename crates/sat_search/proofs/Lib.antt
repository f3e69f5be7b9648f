pub mod Resolving
pub mod Learning
pub mod LeftOver
pub mod UnderWay
pub mod Waiting
pub mod Logs
