pub mod BrokenLaws
pub mod EntryLemmas
pub mod ListLemmas
pub mod SymbolsBrokenLaws
