pub mod Apart
pub mod Looking
pub mod Orders
pub mod Priorities
pub mod Queues
