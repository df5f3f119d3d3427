pub mod Class
pub mod Closed
pub mod Place
