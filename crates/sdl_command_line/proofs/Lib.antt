pub mod CoveredLaws
pub mod DifferenceLemmas
pub mod DrawnLaws
pub mod GrowthLemmas
pub mod LineLemmas
pub mod OutputLemmas
pub mod SenderLemmas
