pub mod Decisions
pub mod FitLoops
pub mod Misfits
pub mod PlainLoops
pub mod Search
