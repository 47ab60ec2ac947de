mod Bodies
mod ConditionLemmas
pub mod Deeds
mod First
pub mod Heads
mod Instances
pub mod Meanings
pub mod Outputs
pub mod Pieces
mod Reacting
mod ReceptionLemmas
mod Recorded
mod Resting
pub mod Results
mod SelectionLemmas
pub mod Staying
mod Stepping
pub mod Sums
pub mod Visits
pub mod Walks
