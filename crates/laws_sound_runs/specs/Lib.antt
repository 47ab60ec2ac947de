pub mod Asked
pub mod Kinds
pub mod Paths
pub mod RunLaws
pub mod Scopes
pub mod Sorts
pub mod States
pub mod TermLaws
