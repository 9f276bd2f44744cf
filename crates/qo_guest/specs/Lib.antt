pub mod Addresses
pub mod Answers
pub mod Lines
pub mod Padding
pub mod Pieces
pub mod Spellings
