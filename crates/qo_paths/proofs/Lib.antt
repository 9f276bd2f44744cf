pub mod DepthSteps
pub mod PlaceLemmas
pub mod PartLemmas
pub mod WalkLemmas
pub mod EndLemmas
