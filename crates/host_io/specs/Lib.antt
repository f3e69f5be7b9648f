pub mod Store
pub mod Sink
pub mod Memory
pub mod Log
pub mod Folder
