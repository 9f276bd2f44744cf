pub mod MemberLemmas
pub mod OrderLemmas
pub mod PlaceLemmas
pub mod ReadingLemmas
pub mod TurnLemmas
