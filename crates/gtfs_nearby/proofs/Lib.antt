pub mod Places
pub mod Areas
pub mod Runs
pub mod Blocks
pub mod Trees
pub mod Searches
pub mod Listing
pub mod Finding
