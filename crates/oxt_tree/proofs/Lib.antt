pub mod CopyLoop
pub mod FreshNumbers
pub mod Insides
pub mod Lists
pub mod NameLoops
pub mod Places
