pub mod Bound
pub mod Copies
pub mod Doc
pub mod Fields
pub mod Inner
pub mod Syntax
pub mod Taken
pub mod View
