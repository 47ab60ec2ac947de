pub mod Byte
pub mod ErrorText
pub mod Kind
pub mod LexError
pub mod Part
pub mod Piece
pub mod Place
pub mod Token
