pub mod Bound
pub mod Changes
pub mod Enums
pub mod Lent
pub mod Sound
pub mod Tables
