pub mod PhaseRuns
pub mod Phases
pub mod PhasesKept
pub mod PhaseFacts
pub mod SoundPhases
