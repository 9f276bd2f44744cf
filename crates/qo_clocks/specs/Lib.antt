pub mod Subtree
pub mod Kept
pub mod Links
pub mod Overflows
pub mod Periods
pub mod Reads
pub mod Spread
pub mod Writes
