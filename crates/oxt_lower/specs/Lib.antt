pub mod Context
pub mod Named
pub mod Spare
pub mod Statement
