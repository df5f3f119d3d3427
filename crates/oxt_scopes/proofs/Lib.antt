pub mod Appends
pub mod Bare
pub mod Numbers
pub mod OwnerLoops
pub mod ScopeLoops
pub mod Stacks
pub mod Tables
pub mod Unsigned
