pub mod DescribedRunLemmas
