pub mod FaultLemmas
pub mod LabelLemmas
pub mod NameLemmas
pub mod OrderLemmas
pub mod RowLemmas
pub mod StateLemmas
