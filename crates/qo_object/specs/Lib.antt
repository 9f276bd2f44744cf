pub mod Content
pub mod Loans
pub mod Names
pub mod BoardObject
pub mod Room
pub mod Slots
