pub mod Complete
pub mod Expressions
pub mod Names
pub mod Processes
pub mod Ranges
pub mod Transitions
