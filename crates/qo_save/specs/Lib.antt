pub mod Described
pub mod Description
pub mod Like
pub mod Rebuilding
pub mod Rows
pub mod Shape
pub mod Texts
