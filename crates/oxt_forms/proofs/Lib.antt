pub mod Appends
pub mod Details
pub mod Drops
pub mod Firsts
pub mod Searches
