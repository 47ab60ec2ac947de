pub mod AnswerLemmas
pub mod MissingLemmas
pub mod NameLemmas
pub mod OrderLemmas
pub mod ProcessLemmas
pub mod TimesLemmas
pub mod UnsetLemmas
pub mod WordLemmas
