pub mod CallLemmas
pub mod TimerLemmas
