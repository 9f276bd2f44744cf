pub mod NameLemmas
pub mod WayLemmas
pub mod WaysLawLemmas
