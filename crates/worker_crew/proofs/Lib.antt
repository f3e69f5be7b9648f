mod Counted
mod Crossing
mod Filled
mod Filling
mod Gathered
mod Working
