pub mod TimerRuns
