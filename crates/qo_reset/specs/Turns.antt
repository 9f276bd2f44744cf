-- For proofs alone. What is done to each object of a walk over all below an object.
use Rattle.std.specs.Prelude.{◌≡◌, ℕ, suc, ◌+◌, ◌-◌, ◌==◌, if◌then◌else◌, Bool, false, List, [], ◌∷◌, take, length, min, ⊤}
use Rattle.std.specs.List.{flat_map}
use Rattle.qo_kinds.specs.Bodies.{reads_moment}
use Rattle.qo_object.specs.declared.room.Side.{Side}
use Rattle.qo_object.specs.Content.{Content}
use Rattle.qo_heap.specs.Objects.{Objects, slots_of, with_edit}
use Rattle.qo_reset.specs.declared.turns.TheConstants.{HOLDS_MAX}
use Rattle.qo_reset.specs.declared.turns.Tally.{Tally}
use Rattle.qo_reset.specs.declared.turns.Tally.TheVariants.{Raise, Lower, Unmark}
use Rattle.qo_reset.specs.declared.turns.Turn.{Turn}
use Rattle.qo_reset.specs.declared.turns.Turn.TheVariants.{Run, RunOut, Count, Recount}
use Rattle.qo_reset.specs.Counts.{kept_count}
use Rattle.qo_reset.specs.Phases.{acted_on, below_on, count_on, is_bus, kids_in, post_by}

-- what is kept of an object with a hold more on it or above it, or a hold less, and a mark, where it has none; and with no mark
abbrev pub tallied : Tally → Side → Side
tallied Raise s = if s.marks == 0 then record s { count = min (s.count + 1) HOLDS_MAX; marks = 1 } else s
tallied Lower s = if s.marks == 0 then record s { count = s.count - 1; marks = 1 } else s
tallied Unmark s = record s { marks = 0 }

-- with so many holds, and no mark
abbrev pub counted : ℕ → Side → Side
counted count s = record s { count = count; marks = 0 }

-- an object of which that is kept
abbrev pub sided : (Side → Side) → Content → Content
sided change c = record c { side = change c.side }

-- a heap after the turn of an object
abbrev pub done : Turn → List ℕ → ℕ → Objects → Objects
done (Run act) holds n v = acted_on act n v
done (RunOut act) holds n v = if kept_count v n == 0 then acted_on act n v else v
done (Count tally) holds n v = with_edit n (sided (tallied tally)) v
done Recount holds n v = with_edit n (sided (counted (min (count_on v holds n) HOLDS_MAX))) v

-- after the turns of objects in order
unfoldable pub turned : Turn → List ℕ → List ℕ → Objects → Objects
turned turn holds [] v = v
turned turn holds (n ∷ ns) v = turned turn holds ns (done turn holds n v)

-- of an object and all below it, to a depth; of those below it in its first slots; and of all
unfoldable pub visited : Turn → List ℕ → ℕ → ℕ → Objects → Objects
visited turn holds levels n v = turned turn holds (post_by (below_on v) levels n) v

unfoldable pub visited_to : Turn → List ℕ → ℕ → ℕ → ℕ → Objects → Objects
visited_to turn holds levels n i v =
    turned turn holds (flat_map (post_by (below_on v) levels) (kids_in (is_bus v) (is_bus v n) (take i (slots_of v n)))) v

abbrev pub walk_on : Turn → List ℕ → ℕ → Objects → Objects
walk_on turn holds n v = visited turn holds (suc (length v.rows)) n v

-- after the counts of an object and of all below it changed, once
abbrev pub tallied_on : Tally → ℕ → Objects → Objects
tallied_on tally n v = walk_on (Count Unmark) [] n (walk_on (Count tally) [] n v)

-- a turn that is no act which reads the moment
abbrev pub IsTimeless : Turn → Type 0
IsTimeless (Run act) = reads_moment act ≡ false
IsTimeless (RunOut act) = reads_moment act ≡ false
IsTimeless turn = ⊤
