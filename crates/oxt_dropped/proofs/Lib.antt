pub mod Drops
pub mod Needs
