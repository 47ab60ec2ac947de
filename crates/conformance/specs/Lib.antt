pub mod Escape
pub mod Judgement
pub mod Line
pub mod Tally
