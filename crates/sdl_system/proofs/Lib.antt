pub mod BehaviourLemmas
pub mod BodyLemmas
pub mod Crossing
pub mod GrowLemmas
pub mod NameLemmas
pub mod OperationLemmas
pub mod RouteLemmas
pub mod SoundnessLemmas
mod StateLemmas
pub mod WalkLemmas
