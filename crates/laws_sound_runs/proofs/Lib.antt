pub mod CauseLemmas
pub mod KindLemmas
pub mod PathLemmas
pub mod PlaceLemmas
pub mod SortLemmas
pub mod SoundLemmas
pub mod ValueLemmas
