pub mod ReturnedClaims
pub mod DisjointRanges
pub mod LeastLemmas
pub mod Multiples
pub mod SetLemmas
pub mod Walks
