pub mod Entries
pub mod Lending
pub mod Meant
pub mod Scoped
