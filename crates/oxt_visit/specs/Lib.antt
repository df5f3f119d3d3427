pub mod Calls
pub mod Hooks
pub mod Place
pub mod Reading
pub mod Scope
pub mod Visits
pub mod Walks
pub mod Weight
