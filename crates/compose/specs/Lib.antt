pub mod Completeness
pub mod Demo
pub mod Exits
pub mod Rebuild
pub mod Replay
pub mod Service
pub mod Types
pub mod Watch
