mod PlacingRows
pub mod KidLemmas
pub mod LeavingLemmas
pub mod LinkLemmas
pub mod NameLemmas
pub mod PlacingLemmas
pub mod SlotLemmas
pub mod WayLemmas
