pub mod AgreeingLemmas
pub mod ContinuousLemmas
pub mod EnablingLemmas
pub mod ListLemmas
pub mod MeaningLemmas
pub mod ReactionLemmas
pub mod StateLemmas
pub mod WaitingLemmas
