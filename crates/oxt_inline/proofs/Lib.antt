pub mod Entries
pub mod Found
pub mod Shared
pub mod Tables
