-- For proofs alone. How the objects that have a region are listed.
use Rattle.std.specs.Prelude.{◌≡◌, ℕ, ◌-◌, Bool, true, false, List, [], filter_map, map, slice_get, take, Option, option_and_then, codes}
use Rattle.std.specs.Option.{option_map_or}
use Rattle.qo_slots.specs.declared.keys.Key.{Key}
use Rattle.qo_model.specs.Board.{Board, Slot, slots_at}
use Rattle.qo_model.specs.Paths.{is_of}
use Rattle.qo_model.specs.Depth.{by_depth}
use Rattle.qo_model.specs.Devices.{bus_in, strong_in}
use Rattle.qo_model.specs.Reset.{post_turn}
use Rattle.qo_layout.specs.declared.wiring.Wiring.{Wiring}
use Rattle.qo_layout.specs.declared.wiring.Wiring.TheVariants.{Own, Masked, Joined}

-- the births of objects
abbrev pub births_of : List Key → List ℕ
births_of objects = map (λ (o : Key). o.birth) objects

-- an object after all that is below it, to a depth
abbrev pub post_within : Board → ℕ → ℕ → List ℕ
post_within b levels n = by_depth (post_turn b) (λ _. []) levels n

-- what is below an object in a slot: of a bus a device, of any other object a bus
abbrev pub below_in : Board → Bool → List ℕ × Slot → Option ℕ
below_in b true s = strong_in s.1
below_in b false s = bus_in b s

abbrev pub below_at : Board → Bool → ℕ → ℕ → Option ℕ
below_at b bus n at = option_and_then (below_in b bus) (slice_get (slots_at b n) at)

-- the same of what is in a slot
abbrev pub post_at : Board → ℕ → Bool → ℕ → ℕ → List ℕ
post_at b levels bus n at = option_map_or (post_within b levels) (below_at b bus n at) []

-- the first place of a slot with something below an object, of so many slots, by how its line is driven
abbrev pub first_below : Wiring → ℕ → ℕ
first_below Own count = count
first_below Masked count = count - 1
first_below Joined count = 0

-- nothing is below an object whose line is driven so, whatever slots it has
abbrev pub is_leaf : Wiring → Bool
is_leaf Own = true
is_leaf w = false

-- nothing is below an object in the slots before a place
abbrev pub NoneBefore : Board → ℕ → ℕ → Type 0
NoneBefore b o at = filter_map (below_in b (is_of b (codes "bus") o)) (take at (slots_at b o)) ≡ []
