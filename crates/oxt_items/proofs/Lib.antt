pub mod Gains
pub mod Joined
pub mod Noted
pub mod Puts
