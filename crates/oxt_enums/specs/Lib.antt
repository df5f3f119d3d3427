pub mod Blocks
pub mod Constants
pub mod Enums
pub mod Groups
pub mod Held
pub mod Members
pub mod Tables
