pub mod DescriptionLemmas
pub mod RowsLemmas
pub mod StringLemmas
pub mod TokenLemmas
pub mod ValueLemmas
