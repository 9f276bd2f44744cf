pub mod Numbers
pub mod Options
pub mod Lines
pub mod Trees
pub mod Buses
pub mod TreeLaw
pub mod Joined
pub mod Spellings
