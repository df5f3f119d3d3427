pub mod EachField
pub mod EachKind
pub mod OneField
pub mod OneKind
