pub mod Others
pub mod Refused
pub mod Told
pub mod Warned
