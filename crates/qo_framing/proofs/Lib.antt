pub mod Scans
pub mod UnfinishedObjects
pub mod Cuts
pub mod Steps
pub mod Feeding
pub mod Ends
