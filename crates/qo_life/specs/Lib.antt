pub mod Life
pub mod Work
