-- References: what keeps an object alive (docs/devel/qom.rst, "The QEMU Object Model": reference counting).
use Rattle.std.specs.Prelude.{ℕ, ◌+◌, Bool, false, ◌==◌, List, None, Some, sum_by, count_by}
use Rattle.qo_model.specs.Board.{Board, Record, Slot, referent}

-- whether a slot holds n
abbrev pub holds_it : ℕ → Slot → Bool
holds_it n s = elim (referent s) [ None ↦ false | Some m ↦ m == n ]

-- how many slots of an object hold n
abbrev pub refs_in : ℕ → Record → ℕ
refs_in n r = count_by (λ (s : List ℕ × Slot). holds_it n s.1) r.slots

-- the references of n: the child slots and strong links that name it, in all objects, and its pins
abbrev pub refs : Board → ℕ → ℕ
refs b n = sum_by (refs_in n) b.records + count_by (λ m. m == n) b.pins
