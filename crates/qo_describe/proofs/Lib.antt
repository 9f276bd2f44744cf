pub mod EntryLemmas
pub mod GivenLemmas
pub mod ItemLemmas
pub mod PartLemmas
pub mod ValueLemmas
pub mod WalkLemmas
