pub mod Law
pub mod Pending
pub mod Placed
