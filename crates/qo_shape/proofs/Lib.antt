pub mod DescriptionLemmas
pub mod ItemLemmas
pub mod PropLemmas
pub mod ReadLemmas
