pub mod BrokenLaws
mod CountLemmas
pub mod KnownLemmas
pub mod LimitLemmas
mod ListLemmas
pub mod NamedLemmas
pub mod SynonymLemmas
pub mod SynonymsBrokenLaws
pub mod UnvaluedLaws
