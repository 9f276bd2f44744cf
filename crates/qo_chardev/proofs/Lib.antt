pub mod Ascii
pub mod Encodings
pub mod PartLemmas
pub mod RingLemmas
pub mod RingsLemmas
pub mod Sizes
