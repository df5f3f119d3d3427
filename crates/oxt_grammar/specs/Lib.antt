pub mod Categories
pub mod Context
pub mod Field
pub mod Keys
pub mod Kinds
pub mod Places
pub mod Rows
pub mod Words
