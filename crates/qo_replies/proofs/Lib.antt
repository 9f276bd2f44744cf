pub mod AsciiLemmas
pub mod EventLemmas
pub mod MemberLemmas
pub mod PropertyLemmas
pub mod QuoteLemmas
pub mod TextLemmas
