pub mod Expressions
pub mod Parts
pub mod PlacedWord
pub mod Reader
pub mod Reading
pub mod Reads
pub mod Searched
pub mod Wanted
