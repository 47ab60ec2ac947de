mod Crossing
pub mod Stepping
