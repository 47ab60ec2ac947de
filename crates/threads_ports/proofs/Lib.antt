pub mod Ascending
pub mod Bits
pub mod InstancesKept
mod IntoLemmas
mod LawLemmas
pub mod Made
mod Making
pub mod Members
pub mod Moves
mod OwnerLaws
mod PlaceLemmas
pub mod Ranges
pub mod SenderLemmas
pub mod SendersKept
pub mod SentLemmas
pub mod Signals
pub mod Sums
mod Told
