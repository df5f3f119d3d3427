pub mod Tables
pub mod Weights
