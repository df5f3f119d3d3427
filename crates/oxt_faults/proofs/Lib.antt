pub mod Bindings
pub mod Earliests
pub mod Frees
pub mod Enough
pub mod Leasts
pub mod Memberless
pub mod Symbols
pub mod Unmarked
