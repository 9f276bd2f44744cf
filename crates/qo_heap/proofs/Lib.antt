pub mod ActsLemmas
pub mod ActsReads
pub mod BookLemmas
pub mod EndLemmas
mod EndedLinks
mod EndsInside
mod FurnishInside
mod FurnishLemmas
pub mod SearchLemmas
pub mod HeapLemmas
mod HeldInside
mod HoldLemmas
mod InsideObjects
mod KeepingLemmas
mod KeptEnds
mod ChildPlaces
mod ParentLemmas
mod ReferenceLemmas
mod WeakCalls
mod WeakChains
mod WeakChanges
mod WeakEnds
mod WeakInside
mod WeakMoves
mod WeakNodes
pub mod WeakOwners
mod WeakRows
mod WeakSlots
mod WeakTables
pub mod PlacesLemmas
pub mod SlotPlaces
pub mod BoardActs
pub mod BoardChanges
pub mod BoardEdits
pub mod BoardEnds
pub mod BoardObjects
pub mod BoardReads
pub mod MomentLemmas
pub mod Logs
pub mod Parts
pub mod RowsLemmas
pub mod TableSearch
pub mod ValueLemmas
