pub mod Noted
pub mod Woken
