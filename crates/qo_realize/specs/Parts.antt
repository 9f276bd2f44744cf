-- For proofs alone. What contracts see of a board: its objects, and what stands beside them.
use Rattle.std.specs.Prelude.{ℕ, ◌+◌, Bool, List, Option, None, Some}
use Rattle.qo_model.specs.Board.{Notice, Removal, Ring}
use Rattle.qo_heap.specs.Objects.{Objects}
use Rattle.qo_hotplug.specs.Hotplug.{Asked}
use Rattle.qo_reset.specs.HoldList.{HoldList}

pub record Parts : Type 0 where
  -- the objects, with their births, notes and claims
  pub objects : Objects
  -- the accepted adds of devices without an id, and whether the machine runs
  pub anonymous : ℕ
  pub running : Bool
  -- the objects that are held in reset, by their births, with repeats; the removals that are asked for; and the notices for the guest, in order
  pub holds : List ℕ
  pub pending : List Removal
  pub notices : List Notice
  pub rings : List Ring

-- what is seen of a board by its fields
abbrev pub parts_of : List Ring → ℕ → Bool → HoldList → Asked → Objects → Parts
parts_of rings anonymous running holds asked v =
    record { objects = v; anonymous = anonymous; running = running; holds = holds.births; pending = asked.pending; notices = asked.notices; rings = rings }

-- how many devices without an id were added after one more, with an id or without
abbrev pub counts : ℕ → Option (List ℕ) → ℕ
counts n None = n + 1
counts n (Some id) = n
