-- Holders: where the references of an object that is not attached come from.
use Rattle.std.specs.Prelude.{◌≡◌, ℕ, true, List, filter_map}
use Rattle.qo_model.specs.Board.{Board, Slot, slots_at, referent}
use Rattle.qo_model.specs.Depth.{Leads}
use Rattle.qo_model.specs.Paths.{attached}

-- the objects that n holds, by child slots and by strong links, in order
abbrev pub held_by : Board → ℕ → List ℕ
held_by b n = filter_map (λ (s : List ℕ × Slot). referent s.1) (slots_at b n)

-- n is held, in one step or more, by an object that holds itself so, which is a cycle, or by an attached object
pub data HeldFrom (b : Board) (n : ℕ) : Type 0 where
  a_cycle : (m : ℕ) → Leads (held_by b) m m → Leads (held_by b) m n → HeldFrom b n
  an_attached : (m : ℕ) → attached b m ≡ true → Leads (held_by b) m n → HeldFrom b n
