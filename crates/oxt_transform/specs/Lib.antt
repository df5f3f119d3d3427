pub mod Faults
pub mod Lowering
pub mod Outcomes
pub mod Refusals
