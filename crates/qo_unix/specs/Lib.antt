pub mod Counts
pub mod Inputs
