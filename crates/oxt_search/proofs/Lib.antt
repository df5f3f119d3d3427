pub mod Alls
pub mod Firsts
pub mod Given
pub mod Nothing
mod Alone
mod Bare
