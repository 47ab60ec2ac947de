pub mod Agreeing
pub mod Grouped
pub mod Linked
pub mod Meant
pub mod Stated
