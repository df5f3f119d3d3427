pub mod Condition
pub mod Misfit
pub mod Place
pub mod Plain
pub mod Pointer
pub mod Valid
