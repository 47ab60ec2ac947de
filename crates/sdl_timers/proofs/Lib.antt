pub mod Arming
pub mod Counting
pub mod Firing
pub mod Orders
pub mod Playing
pub mod Steps
pub mod Thinning
pub mod Turning
