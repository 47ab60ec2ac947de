pub mod AddedLemmas
pub mod CloseLemmas
pub mod DeclaredLemmas
pub mod EndLemmas
mod FaultLemmas
mod KeepsLemmas
pub mod ListLemmas
mod MeaningLemmas
pub mod MentionLemmas
pub mod NumberLemmas
pub mod OrderLemmas
mod RefusedLemmas
mod WithinLemmas
