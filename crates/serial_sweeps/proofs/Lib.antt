pub mod Marks
pub mod Moments
