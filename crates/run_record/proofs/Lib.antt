mod ChainLemmas
mod LawLemmas
mod ListLemmas
pub mod PackedLemmas
pub mod ReadLemmas
pub mod ReceiverLemmas
