mod Corners
mod Openings
mod Queues
mod Runs
mod Sets
mod Touched
mod TracedRuns
