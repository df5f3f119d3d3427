pub mod Called
pub mod Going
pub mod Looked
pub mod Rests
pub mod Steps
pub mod Watched
