pub mod Backwards
pub mod BlockLoops
pub mod Evaluations
pub mod Firsts
pub mod Grouping
pub mod Growth
pub mod MemberLoops
pub mod Wide
