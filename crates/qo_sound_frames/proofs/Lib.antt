pub mod FormLemmas
pub mod FrameLemmas
pub mod PlacesLemmas
