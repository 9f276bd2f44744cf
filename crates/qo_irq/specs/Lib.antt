pub mod Answers
pub mod Kept
pub mod Laws
pub mod Wires
