mod Eaches
mod Finds
pub mod Appends
pub mod FoundLoops
pub mod NameLoops
pub mod Outside
pub mod TypeLoops
