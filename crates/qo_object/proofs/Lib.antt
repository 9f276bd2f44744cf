pub mod ObjectLemmas
pub mod NameLemmas
pub mod KnownNames
pub mod BoardObjectLemmas
pub mod SlotLemmas
