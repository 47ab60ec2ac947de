pub mod EndLemmas
mod Faults
pub mod LineLemmas
pub mod MeaningLemmas
mod Meanings
mod Parts
pub mod ReadingLemmas
mod Refusals
pub mod RunLemmas
pub mod ScriptLemmas
mod Spellings
mod Texts
pub mod ValueLemmas
