pub mod ArgumentMemberLemmas
pub mod MemberSteps
pub mod MemberLemmas
pub mod PartLemmas
pub mod Readings
pub mod NameOrder
