-- For proofs alone. What contracts see of the holds.
use Rattle.std.specs.Prelude.{ℕ, ◌-◌, List, [], ◌∷◌, ◌++◌}

-- the births of the objects that are held, in the order of taking, repeats allowed, and how many holds more there is memory for
pub record HoldList : Type 0 where
  pub births : List ℕ
  pub spare : ℕ

abbrev pub no_holds : HoldList
no_holds = record { births = []; spare = 0 }

-- a hold more, in a place that was free
abbrev pub with_hold : ℕ → HoldList → HoldList
with_hold n h = record { births = h.births ++ n ∷ []; spare = h.spare - 1 }
