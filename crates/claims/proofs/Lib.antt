pub mod Numbers
mod Kept
