pub mod BodyLaws
pub mod DefinitionLaws
pub mod InstanceLemmas
pub mod LimitLaws
pub mod RuleLemmas
pub mod StartLaws
