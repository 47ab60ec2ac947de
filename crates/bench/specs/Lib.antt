pub mod Signals
pub mod Words
