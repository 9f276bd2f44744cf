mod MomentLemmas
mod TypeRows
