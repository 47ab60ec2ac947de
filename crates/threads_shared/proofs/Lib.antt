pub mod CreateLemmas
pub mod HeardLines
pub mod NotingLemmas
pub mod Sent
