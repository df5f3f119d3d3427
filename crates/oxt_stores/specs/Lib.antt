pub mod Insertion
pub mod Top
pub mod Lending
pub mod Entries
pub mod Alone
pub mod Frame
pub mod Ready
