pub mod DescribedRuns
