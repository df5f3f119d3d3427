pub mod Stacks
pub mod Waiting
pub mod Frames
