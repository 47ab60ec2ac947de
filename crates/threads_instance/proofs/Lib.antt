pub mod Beginning
mod CourseLemmas
pub mod EffectLemmas
pub mod Leaving
pub mod Moving
pub mod Numbering
pub mod Puts
pub mod RunBy
pub mod Stepping
mod Walks
