pub mod ArgumentLemmas
pub mod BrokenLaws
pub mod ConstantLaws
pub mod ListedLaws
pub mod ScopeLemmas
pub mod TreeLemmas
