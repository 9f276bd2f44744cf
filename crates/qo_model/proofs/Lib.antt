pub mod AmongLemmas
pub mod AttemptLemmas
pub mod BoundLemmas
pub mod ClockFitLemmas
pub mod ClockPropertyLemmas
mod ClockPropertyRows
pub mod ClockScopeLemmas
pub mod ComesToLemmas
pub mod Common
pub mod CycleLemmas
pub mod DepthLemmas
mod DeviceRows
pub mod DraftEndsLemmas
pub mod EditLemmas
pub mod FinalNotesChangesLemmas
pub mod FinalNotesGrowthLemmas
pub mod FinalNotesLemmas
mod FinalNotesRows
pub mod FinalNotesRunsLemmas
pub mod FirstSlotLemmas
pub mod GraphLemmas
mod HotplugRows
pub mod OpeningLemmas
pub mod LateAttemptLemmas
pub mod PeriodLemmas
pub mod PinLemmas
pub mod ReleaseInductionLemmas
pub mod ReleaseScopeLemmas
pub mod ReleaseLemmas
pub mod ReleaseNotesLemmas
mod ObjectRows
mod ReleaseRows
pub mod ReleaseRulesLemmas
pub mod ReleaseWorkLemmas
pub mod SparesLemmas
mod Rows
pub mod RowTerms
pub mod ChangeScopeLemmas
pub mod StepLemmas
pub mod TreeLemmas
pub mod WeakLinkLemmas
pub mod WrittenLemmas
