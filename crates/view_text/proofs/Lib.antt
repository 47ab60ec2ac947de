mod Going
pub mod LastLemmas
pub mod Least
mod Losing
pub mod Opening
pub mod Passing
mod Pushed
pub mod Ranges
mod Sent
mod Words
pub mod Writing
