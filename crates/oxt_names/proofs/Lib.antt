pub mod Appended
pub mod Candidates
pub mod Copies
pub mod Lists
pub mod Tables
pub mod Trims
