-- For proofs alone. What is kept of clocks, over a change of a heap: their periods.
use Rattle.std.specs.Prelude.{◌≡◌, ℕ, Some}
use Rattle.qo_model.specs.Board.{Board}
use Rattle.qo_object.specs.Content.{Content}
use Rattle.qo_heap.specs.Acts.{clocked_in, periods_of}
use Rattle.qo_heap.specs.Board.{Shows}
use Rattle.qo_heap.specs.Objects.{Objects, content_of}
use Rattle.qo_clocks.specs.Kept.{Clocked}
use Rattle.qo_clocks.specs.Periods.{scaled_on}
use Rattle.qo_clocks.specs.Reads.{own_on}

-- of who is there the same periods were kept before
abbrev pub PeriodsBefore : Objects → Objects → Type 0
PeriodsBefore v w = (n : ℕ) (k : ℕ × ℕ) → clocked_in w n ≡ Some k → clocked_in v n ≡ Some k

-- where the clocks of a board are as they should be, with right periods kept, so are those of the board after
abbrev pub KeepsClocks : Objects → Objects → Type 0
KeepsClocks v w = (b : Board) → Shows b v → Clocked b v → (x : Board) → Shows x w → Clocked x w

-- of each object the periods are kept that it has where it goes by no other
abbrev pub OwnKept : Objects → Type 0
OwnKept v = (n : ℕ) (c : Content) → content_of v n ≡ Some c → periods_of c ≡ (own_on v n, scaled_on v n (own_on v n))
