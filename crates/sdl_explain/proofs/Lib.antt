pub mod BesideLemmas
pub mod OthersLemmas
pub mod ToldLemmas
