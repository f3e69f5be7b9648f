mod Prefixes
mod Kept
mod Closing
