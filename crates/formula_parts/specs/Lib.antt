pub mod Building
pub mod Found
pub mod Lists
pub mod Tables
