mod Beginnings
mod Clocks
mod Histories
mod Known
pub mod Made
mod Matching
mod Numbers
pub mod Own
mod Scripts
