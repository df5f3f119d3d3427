pub mod Aliases
pub mod Due
pub mod Jsx
pub mod Kept
pub mod Marked
pub mod Names
pub mod Removed
pub mod Symbols
