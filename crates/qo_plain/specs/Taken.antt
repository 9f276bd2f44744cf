-- For a law alone. How a device is taken out with all that is below it, by the kids and the buses of the board before.
use Rattle.std.specs.Prelude.{◌≡◌, ℕ, true}
use Rattle.qo_model.specs.Board.{Board}
use Rattle.qo_model.specs.Devices.{buses_of, kids_of}
use Rattle.qo_model.specs.Release.{pin, unpin}
use Rattle.qo_model.specs.Unplug.{detach, each, is_bus_child, left_bus, left_parent, let_go_where, unrealize}
use Rattle.qo_sound_devices.specs.SoundDevices.{SoundDevices}
use Rattle.qo_sound_devices.specs.SoundPlaces.{stands}

-- bus after bus: each kid is taken out, and the bus is let go; then the device leaves its bus and its container, and is held no more
abbrev pub taken_turn : Board → (ℕ → Board → Board) → ℕ → Board → Board
taken_turn b step d c =
    unpin (left_parent d (left_bus d (each (λ m. λ e. let_go_where (is_bus_child m) d (each step (kids_of b m) e)) (buses_of b d) c))) d

-- a way of taking out devices goes by these steps, where each device is held meanwhile
abbrev pub IsByTurns : Board → (ℕ → Board → Board) → Type 0
IsByTurns b step = (d : ℕ) (c : Board) → step d c ≡ taken_turn b step d (pin c d)

-- there is one such way, and no other; a device that is detached is unrealized with all that is below it, and then taken out so
pub record TakesOut (b : Board) : Type 0 where
  pub step : ℕ → Board → Board
  pub is : IsByTurns b step
  pub only : (other : ℕ → Board → Board) → IsByTurns b other → (d : ℕ) (c : Board) → other d c ≡ step d c
  pub whole : (d : ℕ) → stands b d ≡ true → detach b d ≡ taken_turn b step d (unrealize (pin b d) d)

-- on a board that is sound as far as devices go
abbrev pub TakenLaw : Type 0
TakenLaw = (b : Board) → SoundDevices b → TakesOut b
