pub mod All
pub mod Found
pub mod Operators
pub mod Powers
pub mod Signs
pub mod Templates
pub mod TextForms
