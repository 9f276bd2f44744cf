mod BusKidLemmas
mod ChangeLemmas
mod ChangedLinesLemmas
pub mod DeviceFrameLemmas
pub mod FrameLemmas
mod ListingLemmas
mod NoteLemmas
mod TouchedLemmas
pub mod AttemptLemmas
pub mod CommandLemmas
pub mod HearingLemmas
pub mod KeptViewLemmas
pub mod LineLemmas
pub mod MemoryLemmas
pub mod RefusedCommandLemmas
pub mod RefusedLineLemmas
pub mod InterruptLemmas
