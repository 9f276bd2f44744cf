mod MatchLemmas
pub mod WordLemmas
