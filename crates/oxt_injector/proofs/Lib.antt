pub mod Laws
pub mod Moving
pub mod Placing
pub mod Stored
