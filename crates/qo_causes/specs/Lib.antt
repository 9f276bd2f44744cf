pub mod Bytes
pub mod Cause
pub mod Edge
pub mod Hub
pub mod MemoryStreams
pub mod Names
pub mod Script
