pub mod Bound
pub mod BoundViews
pub mod Decorators
pub mod Expected
pub mod Exports
pub mod Judges
pub mod Settings
