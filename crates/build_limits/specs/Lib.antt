pub mod Broken
pub mod Counted
pub mod Limits
pub mod Listed
