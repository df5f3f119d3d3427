pub mod Around
pub mod Changed
pub mod Lent
