pub mod Answer
pub mod Behaviours
pub mod Input
pub mod Kept
pub mod Log
pub mod Parts
pub mod RefusalText
pub mod Views
