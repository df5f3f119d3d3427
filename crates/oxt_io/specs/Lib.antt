pub mod Adapters
pub mod Counts
pub mod Memory
pub mod Passed
pub mod Plans
pub mod SureBytes
