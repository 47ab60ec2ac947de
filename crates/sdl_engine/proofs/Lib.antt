pub mod AnswerLaws
pub mod BehaviourLemmas
pub mod FailedLaws
pub mod KeptLaws
