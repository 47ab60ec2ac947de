pub mod Creates
pub mod Ends
pub mod Steps
