pub mod Details
pub mod Forms
pub mod Leaves
pub mod Made
