pub mod PathLemmas
pub mod RereadLemmas
