mod Uses
pub mod Elements
pub mod Symbols
