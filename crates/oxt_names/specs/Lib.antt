pub mod Constant
pub mod Flags
pub mod Line
pub mod Made
pub mod Names
pub mod Short
pub mod Texts
pub mod Tried
