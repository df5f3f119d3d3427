pub mod Behind
pub mod Declarations
pub mod Elements
pub mod Facts
pub mod Lasts
pub mod Owns
