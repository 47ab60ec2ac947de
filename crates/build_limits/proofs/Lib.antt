pub mod CountLemmas
pub mod LimitLaws
pub mod ListLemmas
pub mod PastLemmas
pub mod StatementLemmas
