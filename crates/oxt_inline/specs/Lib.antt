pub mod Constants
pub mod Inlined
pub mod Names
pub mod Seats
pub mod Target
pub mod Values
