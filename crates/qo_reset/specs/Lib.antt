pub mod Counts
pub mod HoldList
pub mod Phases
pub mod Turns
