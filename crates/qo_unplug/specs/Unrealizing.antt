-- For proofs alone. How the parts of a board are unrealized: what stays of a board meanwhile, and each step to a depth.
use Rattle.std.specs.Prelude.{◌≡◌, ℕ, ⊤, if◌then◌else◌, List, map, take, filter_map, slice_get, Option, None, Some}
use Rattle.std.specs.List.{AllByRecursion, IsDistinct}
use Rattle.std.specs.Option.{option_and_then}
use Rattle.std.specs.Str.{bytes_eq}
use Rattle.qo_values.specs.Registers.{bare}
use Rattle.qo_values.specs.declared.kinds.Act.TheVariants.{Unrealize}
use Rattle.qo_values.specs.declared.properties.Val.TheVariants as val
use Rattle.qo_kinds.specs.declared.kept_set.KeptSet.{KeptSet}
use Rattle.qo_slots.specs.declared.keys.Key.{Key}
use Rattle.qo_heap.specs.Rows.{IsLive}
use Rattle.qo_model.specs.Board.{Board, Record, Slot, plain, weak, slots_at}
use Rattle.qo_model.specs.Clocks.{acted, device_period, source_of}
use Rattle.qo_model.specs.Depth.{among, by_depth}
use Rattle.qo_model.specs.Devices.{bus_in, clock_of, kids_of, strong_in}
use Rattle.qo_model.specs.Unplug.{disconnected, each, unrealize_turn, unrealized_bus}
use Rattle.qo_hotplug.specs.Hotplug.{Asked}
use Rattle.qo_heap.specs.Acts.{counted_in}
use Rattle.qo_heap.specs.Board.{Shows, pins_in}
use Rattle.qo_heap.specs.Objects.{Objects}
use Rattle.qo_heap.specs.Moments.{Timely}
use Rattle.qo_properties.specs.Claims.{KeepsBook}
use Rattle.qo_clocks.specs.Kept.{PeriodsKept}
use Rattle.qo_sound_clocks.specs.SoundClocks.{SoundClocks}
use Rattle.qo_unplug.specs.BoardParts.{Beside}
use Rattle.qo_unplug.specs.RealizedClaims.{KeepsDue}

-- an object without what unrealizing may change: its values, its weak links' targets, and its registers
abbrev pub still_slot : Slot → Slot
still_slot (plain v) = plain (val.Uint 0)
still_slot (weak t target) = weak t None
still_slot s = s

abbrev pub still_slots : List (List ℕ × Slot) → List (List ℕ × Slot)
still_slots slots = map (λ (s : List ℕ × Slot). (s.0, still_slot s.1)) slots

abbrev pub still : Record → Record
still r = record r { slots = still_slots r.slots; registers = bare }

-- the clocks of a board are sound, and the names of each object's slots differ
pub record Ticks (b : Board) : Type 0 where
  pub clocks : SoundClocks b
  pub named : AllByRecursion (λ (r : Record). IsDistinct bytes_eq (map (λ (s : List ℕ × Slot). s.0) r.slots)) b.records

-- two boards have the same objects with the same children and strong links, and the same pins; where the clocks of the
-- first are sound, those of the second are, and they go by no others
pub record SameTree (b c : Board) : Type 0 where
  pub records : map still c.records ≡ map still b.records
  pub pins : c.pins ≡ b.pins
  pub ticks : Ticks b → Ticks c
  pub sources : (n s : ℕ) → source_of c n ≡ Some s → source_of b n ≡ Some s

-- so it is on the way from a board to another, whose heap keeps the periods of its clocks
pub record OnTheWay (b c : Board) (v : Objects) : Type 0 where
  pub tree : SameTree b c
  pub kept : PeriodsKept v

-- a step that needs nothing of an earlier board and of the one before it
abbrev pub nothing_needed : Board → Board → Type 0
nothing_needed b c = ⊤

-- the parts of a board of which unrealizing changes something
pub record Parts : Type 0 where
  pub heap : Objects
  pub held : List ℕ
  pub asked : Asked

abbrev pub parts : Objects → List ℕ → Asked → Parts
parts v held asked = record { heap = v; held = held; asked = asked }

-- parts become others as a board does by a step, which may look at an earlier board of the same tree, whose clocks are
-- sound, where what it needs is so; the periods stay right, who is there stays, the book of claims stays right, the pins
-- stay, and no timer gets ahead of the time
pub record Undoes (needs : Board → Board → Type 0) (step : Board → Board → Board) (s t : Parts) : Type 0 where
  pub shown : (b c : Board) → Ticks b → needs b c → OnTheWay b c s.heap → Beside c s.heap s.held s.asked → Beside (step b c) t.heap t.held t.asked
  pub way : (b c : Board) → Ticks b → needs b c → OnTheWay b c s.heap → Beside c s.heap s.held s.asked → OnTheWay b (step b c) t.heap
  pub live : (key : Key) → IsLive s.heap.rows key → IsLive t.heap.rows key
  pub book : KeepsBook s.heap t.heap
  pub pins : pins_in t.heap.rows ≡ pins_in s.heap.rows
  pub timely : Timely s.heap → Timely t.heap

-- what is kept of holds of an object is this while a hold on it stands on a board, and nothing otherwise
abbrev pub KeepsHeld : ℕ → ℕ × ℕ → Board → Objects → Type 0
KeepsHeld n was c v = (k : ℕ × ℕ) → counted_in v n ≡ Some k → k ≡ (if among c.holds n then was else (0, 0))

-- heaps become others as boards do by such a step, whatever stands beside them; and what is kept of holds goes with them
pub record Clears (needs : Board → Board → Type 0) (step : Board → Board → Board) (v w : Objects) : Type 0 where
  pub shown : (b c : Board) → Ticks b → needs b c → OnTheWay b c v → Shows c v → Shows (step b c) w
  pub way : (b c : Board) → Ticks b → needs b c → OnTheWay b c v → Shows c v → OnTheWay b (step b c) w
  pub counts : (n : ℕ) (was : ℕ × ℕ) (b c : Board) → Ticks b → needs b c → OnTheWay b c v → Shows c v → KeepsHeld n was c v
      → KeepsHeld n was (step b c) w

-- all this, and where bodies kept what was due to what is realized, they do so after it
pub record Ends (needs : Board → Board → Type 0) (step : Board → Board → Board) (s t : Parts) : Type 0 where
  pub undoes : Undoes needs step s t
  pub clears : Clears needs step s.heap t.heap
  pub claims : (b c : Board) → Ticks b → needs b c → OnTheWay b c s.heap → Beside c s.heap s.held s.asked → (due : ℕ → KeptSet)
      → KeepsDue due c s.heap → KeepsDue due (step b c) t.heap

-- parts become others so by a step of a heap alone, whatever stands beside it
abbrev pub HeapUndoes : (Board → Board → Type 0) → (Board → Board → Board) → Objects → Objects → Type 0
HeapUndoes needs step v w = (held : List ℕ) (asked : Asked) → Undoes needs step (parts v held asked) (parts w held asked)

-- a device acts, and its clock loses its source and stands still
abbrev pub stopped : ℕ → Board → Board
stopped d c = disconnected (clock_of c d) (acted Unrealize d (device_period c d) c)

-- a step on an object, if there is one
abbrev pub on_one : (ℕ → Board → Board) → Option ℕ → Board → Board
on_one f None c = c
on_one f (Some n) c = f n c

-- the bus in a slot of a device, and the kid in a slot of a bus; the buses and the kids in the first slots
abbrev pub bus_at : Board → ℕ → ℕ → Option ℕ
bus_at b d i = option_and_then (bus_in b) (slice_get (slots_at b d) i)

abbrev pub kid_in : List ℕ × Slot → Option ℕ
kid_in s = strong_in s.1

abbrev pub kid_in_place : Board → ℕ → ℕ → Option ℕ
kid_in_place b m i = option_and_then kid_in (slice_get (slots_at b m) i)

abbrev pub first_buses : Board → ℕ → ℕ → List ℕ
first_buses b d i = filter_map (bus_in b) (take i (slots_at b d))

abbrev pub first_kids : Board → ℕ → ℕ → List ℕ
first_kids b m i = filter_map kid_in (take i (slots_at b m))

-- a device is unrealized, to a depth; a bus is
unfoldable pub device_within : Board → ℕ → ℕ → Board → Board
device_within b levels d c = by_depth (unrealize_turn b) (λ _ e. e) levels d c

unfoldable pub bus_within : Board → ℕ → ℕ → Board → Board
bus_within b levels m c = unrealized_bus m (each (device_within b levels) (kids_of b m) c)

-- the buses in the first slots of a device are; the kids in the first slots of a bus
unfoldable pub buses_within : Board → ℕ → ℕ → ℕ → Board → Board
buses_within b levels d i c = each (bus_within b levels) (first_buses b d i) c

unfoldable pub kids_within : Board → ℕ → ℕ → ℕ → Board → Board
kids_within b levels m i c = each (device_within b levels) (first_kids b m i) c

-- the kid in a slot of a bus is unrealized, if there is one; the bus in a slot of a device
abbrev pub kid_undone : Board → ℕ → ℕ → ℕ → Board → Board
kid_undone b levels m i c = on_one (device_within b levels) (kid_in_place b m i) c

abbrev pub bus_undone : Board → ℕ → ℕ → ℕ → Board → Board
bus_undone b levels d i c = on_one (bus_within b levels) (bus_at b d i) c
