pub mod Bodies
pub mod Definitions
pub mod Instances
pub mod Limits
