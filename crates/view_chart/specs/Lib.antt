pub mod Ends
pub mod Markup
pub mod Selection
pub mod Words
pub mod Written
