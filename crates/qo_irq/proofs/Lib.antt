pub mod Levels
pub mod Nets
pub mod Spreads
pub mod WiresLemmas
