pub mod Crossing
pub mod DigitLemmas
pub mod GatheredLemmas
pub mod LineLemmas
pub mod NumberLemmas
pub mod PieceLemmas
pub mod WorkersPieceLemmas
pub mod WriteLemmas
