pub mod AgentLemmas
pub mod ConstantLemmas
pub mod HeadingLemmas
pub mod ScopeLemmas
pub mod SignalLemmas
pub mod SystemLemmas
pub mod VariableLemmas
pub mod WalkLemmas
