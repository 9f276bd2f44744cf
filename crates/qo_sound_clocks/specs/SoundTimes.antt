-- When the moments of a board's timers are sound.
use Rattle.std.specs.Prelude.{ℕ, ◌≤◌, ⊤}
use Rattle.std.specs.List.{AllByRecursion}
use Rattle.qo_values.specs.Registers.{Registers, timer}
use Rattle.qo_model.specs.Board.{Board, Record}

-- the last moment at which a segment of a timer began or ended is no later than a moment
abbrev pub IsTimely : ℕ → Registers → Type 0
IsTimely now (timer t) = t.last ≤ now
IsTimely now r = ⊤

-- no timer is ahead of the virtual time
abbrev pub SoundTimes : Board → Type 0
SoundTimes b = AllByRecursion (λ (r : Record). IsTimely b.now r.registers) b.records
