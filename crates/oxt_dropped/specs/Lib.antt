pub mod DroppedEnums
pub mod Needed
