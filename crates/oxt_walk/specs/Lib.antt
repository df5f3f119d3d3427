pub mod Visited
pub mod Watched
