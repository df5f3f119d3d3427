pub mod Imports
pub mod Logs
