pub mod Once
pub mod Firsts
pub mod Schedules
pub mod Whole
pub mod Written
