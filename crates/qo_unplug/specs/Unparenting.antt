-- For proofs alone. How what is below a device is taken apart.
use Rattle.std.specs.Prelude.{ℕ, ◌+◌, ◌≤◌, ◌^◌, ◌==◌, length, count_by}
use Rattle.qo_model.specs.Board.{Board, slots_at}
use Rattle.qo_model.specs.Devices.{buses_of, kids_of}
use Rattle.qo_model.specs.Unplug.{apart_within, drained, first_of, lost_bus, lost_buses, taken_by}
use Rattle.qo_heap.specs.Board.{pins_in}
use Rattle.qo_heap.specs.Objects.{Objects}
use Rattle.qo_unplug.specs.Unrealizing.{on_one}

-- how often an object is held from outside the tree; each could be held so many times more
abbrev pub pin_count : Objects → ℕ → ℕ
pin_count v n = count_by (λ m. m == n) (pins_in v.rows)

abbrev pub HasRoom : Objects → ℕ → Type 0
HasRoom v more = (n : ℕ) → pin_count v n + more ≤ 2 ^ 32

-- the kids of a bus are taken apart, to a depth; the first is, if there is one
unfoldable pub drained_within : ℕ → ℕ → Board → Board
drained_within levels m b = drained (apart_within levels) (length (slots_at b m)) m b

unfoldable pub first_apart : ℕ → ℕ → Board → Board
first_apart levels m b = on_one (apart_within levels) (first_of (kids_of b m)) b

-- a bus of a device is lost; all are; the first is, if there is one
unfoldable pub bus_lost : ℕ → ℕ → ℕ → Board → Board
bus_lost levels d m b = lost_bus (apart_within levels) d m b

unfoldable pub buses_lost : ℕ → ℕ → Board → Board
buses_lost levels d b = lost_buses (apart_within levels) (length (slots_at b d)) d b

unfoldable pub first_lost : ℕ → ℕ → Board → Board
first_lost levels d b = on_one (bus_lost levels d) (first_of (buses_of b d)) b

-- a device is taken out, with all that is below it
unfoldable pub taken_within : ℕ → ℕ → Board → Board
taken_within levels d b = taken_by (apart_within levels) d b
