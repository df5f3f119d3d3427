pub mod Facts
pub mod Lists
pub mod Metadata
pub mod Options
pub mod Rewrite
pub mod Seen
