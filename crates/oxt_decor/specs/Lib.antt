pub mod Named
pub mod Tests
