pub mod Clock
pub mod DueOrder
pub mod Fuses
pub mod Slots
pub mod Thinned
pub mod Tournament
pub mod Turns
