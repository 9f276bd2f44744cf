pub mod Answers
pub mod Gaps
pub mod Book
pub mod Laws
pub mod Lists
