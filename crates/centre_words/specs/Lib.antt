pub mod Commands
pub mod PlainWords
pub mod Rows
pub mod Table
pub mod Words
