-- For a law alone. How a device is taken out with all that is below it, said without a bound.
use Rattle.std.specs.Prelude.{◌≡◌, ℕ, true, Some, None}
use Rattle.qo_model.specs.Board.{Board}
use Rattle.qo_model.specs.Devices.{buses_of, kids_of}
use Rattle.qo_model.specs.Paths.{parent_of}
use Rattle.qo_model.specs.Release.{pin, unpin}
use Rattle.qo_model.specs.Unplug.{detach, first_of, is_bus_child, is_child_slot, left_bus, let_go_where, unrealize}
use Rattle.qo_sound_devices.specs.SoundDevices.{SoundDevices}
use Rattle.qo_sound_devices.specs.SoundPlaces.{stands}

-- what is to be taken out: a device that is unrealized, the buses of a device, or the kids of a bus
pub data Task : Type 0 where
  the_device : ℕ → Task
  the_buses : ℕ → Task
  the_kids : ℕ → Task

-- how it is done, from a board to a board: a device, while it is held, loses its buses and leaves its bus, and its parent lets it go; as long as it has a bus,
-- the first one loses its kids and is let go; as long as a bus has a kid, the first one is taken out
pub data Out : Task → Board → Board → Type 0 where
  device : {b c : Board} (d p : ℕ) → parent_of b d ≡ Some p → Out (the_buses d) (pin b d) c
      → Out (the_device d) b (unpin (let_go_where (is_child_slot d) p (left_bus d c)) d)
  no_bus : {b : Board} (d : ℕ) → first_of (buses_of b d) ≡ None → Out (the_buses d) b b
  bus : {b c e : Board} (d m : ℕ) → first_of (buses_of b d) ≡ Some m → Out (the_kids m) b c → Out (the_buses d) (let_go_where (is_bus_child m) d c) e
      → Out (the_buses d) b e
  no_kid : {b : Board} (m : ℕ) → first_of (kids_of b m) ≡ None → Out (the_kids m) b b
  kid : {b c e : Board} (m k : ℕ) → first_of (kids_of b m) ≡ Some k → Out (the_device k) b c → Out (the_kids m) c e → Out (the_kids m) b e

-- a device is unrealized first, and then taken out, while it is held
pub record Detaches (b : Board) (d : ℕ) : Type 0 where
  pub parent : ℕ
  pub above : parent_of b d ≡ Some parent
  pub bare : Board
  pub buses : Out (the_buses d) (unrealize (pin b d) d) bare
  pub last : detach b d ≡ unpin (let_go_where (is_child_slot d) parent (left_bus d bare)) d

-- so it is on a sound board; and on any board nothing else can come of these sentences
pub record DetachLaw : Type 0 where
  pub detaches : (b : Board) → SoundDevices b → (d : ℕ) → stands b d ≡ true → Detaches b d
  pub once : (t : Task) (b c e : Board) → Out t b c → Out t b e → c ≡ e
