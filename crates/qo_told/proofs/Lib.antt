pub mod BelowFewLemmas
pub mod ClocksFewLemmas
pub mod DetachmentFewLemmas
pub mod EndsFewLemmas
pub mod FewNotesLemmas
pub mod MirrorLemmas
pub mod PlugFewLemmas
