pub mod Environment
pub mod Lookout
pub mod Making
pub mod Noting
pub mod Sending
pub mod Signs
