-- For proofs alone. Bodies act and are noted, what is kept of objects beside the tree changes, and nothing else does.
use Rattle.std.specs.Prelude.{◌≡◌, ℕ, map, Option, option_map}
use Rattle.qo_kinds.specs.declared.bodies.Device.TheVariants.{Bare}
use Rattle.qo_slots.specs.declared.keys.Key.{Key}
use Rattle.qo_object.specs.Content.{Content}
use Rattle.qo_object.specs.Room.{no_side}
use Rattle.qo_heap.specs.Objects.{Objects, content_of}

-- an object but for its device, and for what is kept of it beside the tree
abbrev pub still : Content → Content
still c = record c { body = record c.body { device = Bare }; side = no_side }

abbrev pub stilled : Key × Content → Key × Content
stilled row = (row.0, still row.1)

pub record Acts (v w : Objects) : Type 0 where
  pub rows : map stilled w.rows ≡ map stilled v.rows
  pub born : w.born ≡ v.born
  pub claims : w.claims ≡ v.claims
  pub events : w.events ≡ v.events
  pub time : w.time ≡ v.time

-- what is kept of an object for those who reset it: how many holds are on it or above it, and its marks; if it is there
abbrev pub counts_of : Content → ℕ × ℕ
counts_of c = (c.side.count, c.side.marks)

abbrev pub counted_in : Objects → ℕ → Option (ℕ × ℕ)
counted_in v n = option_map counts_of (content_of v n)

-- and for those who clock it: its period, and the period of those that go by it; if it is there
abbrev pub periods_of : Content → ℕ × ℕ
periods_of c = (c.side.period, c.side.child)

abbrev pub clocked_in : Objects → ℕ → Option (ℕ × ℕ)
clocked_in v n = option_map periods_of (content_of v n)

-- of each object the one stays, or the other
abbrev pub KeepsCounts : Objects → Objects → Type 0
KeepsCounts v w = (n : ℕ) → counted_in w n ≡ counted_in v n

abbrev pub KeepsPeriods : Objects → Objects → Type 0
KeepsPeriods v w = (n : ℕ) → clocked_in w n ≡ clocked_in v n
