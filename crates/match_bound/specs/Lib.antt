pub mod Matchings
pub mod Potentials
pub mod Searches
pub mod Tables
