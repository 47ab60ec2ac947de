pub mod ClosingLaws
pub mod History
pub mod Left
pub mod Noted
pub mod PortThen
