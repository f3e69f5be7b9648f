mod Counted
mod Gathered
