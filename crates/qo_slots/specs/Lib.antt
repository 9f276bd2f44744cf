pub mod Loans
pub mod Table
