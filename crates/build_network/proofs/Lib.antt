mod BehindLemmas
pub mod BrokenLaws
pub mod ListedLaws
pub mod NumberLemmas
pub mod PathLemmas
