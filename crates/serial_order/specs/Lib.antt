pub mod Execution
pub mod Laws
pub mod Report
pub mod RunState
pub mod Times
pub mod Told
