pub mod Choices
pub mod Flags
pub mod Views
pub mod Matching
