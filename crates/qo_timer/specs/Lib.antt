pub mod Calls
pub mod Mode
pub mod Segments
pub mod Sum
