pub mod Digits
pub mod Gathered
pub mod Lines
pub mod Name
pub mod Number
pub mod Pieces
pub mod ReportText
pub mod ShortName
