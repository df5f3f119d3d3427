mod Bindings
mod Quick
pub mod Spans
