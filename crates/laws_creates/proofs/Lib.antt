pub mod Creates
pub mod Ends
pub mod LivingLemmas
pub mod Numbers
pub mod Sending
pub mod Steps
pub mod Within
