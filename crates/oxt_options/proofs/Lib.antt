mod Dots
pub mod Known
mod Made
mod Tables
