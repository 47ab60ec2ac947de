mod ByteLemmas
pub mod ChangeLemmas
pub mod ExcerptLemmas
pub mod GapLemmas
pub mod RestLemmas
pub mod ScanLemmas
