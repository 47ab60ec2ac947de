pub mod FaultLaws
pub mod Faults
pub mod Labels
pub mod Names
pub mod Spaces
pub mod States
