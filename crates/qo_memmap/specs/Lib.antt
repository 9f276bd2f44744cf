pub mod Answers
pub mod FlatViews
pub mod Joins
pub mod Laws
pub mod Merges
pub mod Regions
pub mod Spans
pub mod Windows
