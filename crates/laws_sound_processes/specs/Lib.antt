pub mod Behaviours
pub mod BodyLaws
pub mod ProcessLaws
pub mod States
pub mod Tables
pub mod Typed
