pub mod EarLemmas
pub mod MirrorLemmas
