pub mod BoardLemmas
pub mod CountLemmas
pub mod EditLemmas
pub mod HoldLemmas
pub mod LiveLemmas
pub mod WalkLemmas
