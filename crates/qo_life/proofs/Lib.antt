pub mod BirthLemmas
pub mod BoardLemmas
pub mod ReleaseLemmas
pub mod HeldLemmas
pub mod NewObjectLemmas
pub mod TreeLemmas
mod PaidLemmas
mod WorkLemmas
