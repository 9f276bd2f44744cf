pub mod Events
pub mod Json
pub mod PlainBytes
pub mod Properties
pub mod Replies
