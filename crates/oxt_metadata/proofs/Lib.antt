pub mod Dots
pub mod Found
pub mod Members
pub mod Named
pub mod Placed
pub mod Turns
pub mod Unions
