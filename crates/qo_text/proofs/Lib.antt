pub mod TreeLemmas
pub mod PartLemmas
pub mod NumberLemmas
pub mod SpelledLemmas
pub mod OptionLemmas
pub mod WordLemmas
pub mod WalkLemmas
pub mod TreeTextLemmas
pub mod BusTextLemmas
mod LineRows
mod TreeRows
