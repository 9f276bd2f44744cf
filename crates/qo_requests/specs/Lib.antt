pub mod Arguments
pub mod Commands
pub mod Fields
pub mod ArgumentMembers
pub mod Members
pub mod Messages
pub mod Values
