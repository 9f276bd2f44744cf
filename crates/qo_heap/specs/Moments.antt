-- For proofs alone. The moments of timers and the heap's time.
use Rattle.std.specs.Prelude.{ℕ, List}
use Rattle.std.specs.List.{AllByRecursion}
use Rattle.qo_kinds.specs.Bodies.{IsTimely}
use Rattle.qo_slots.specs.declared.keys.Key.{Key}
use Rattle.qo_object.specs.Content.{Content}
use Rattle.qo_heap.specs.Objects.{Objects}

-- no segment of a timer began or ended after a moment
abbrev pub AllTimely : ℕ → List (Key × Content) → Type 0
AllTimely now rows = AllByRecursion (λ (row : Key × Content). IsTimely now row.1.body) rows

-- nor after the heap's time
abbrev pub Timely : Objects → Type 0
Timely v = AllTimely v.time v.rows
