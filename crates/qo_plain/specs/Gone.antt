-- For a law alone. Who goes with a device that is taken out.
use Rattle.std.specs.Prelude.{◌≡◌, ℕ, true, false}
use Rattle.qo_model.specs.Board.{Board}
use Rattle.qo_model.specs.Depth.{among}
use Rattle.qo_model.specs.Devices.{bus_of, bus_slot_of, buses_of, kids_of}
use Rattle.qo_model.specs.Unplug.{detach}
use Rattle.qo_sound_devices.specs.SoundDevices.{SoundDevices}
use Rattle.qo_sound_devices.specs.SoundPlaces.{stands}

-- y is d, or on a bus of d, or of what is on one
pub data Below (b : Board) : ℕ → ℕ → Type 0 where
  itself : {d : ℕ} → Below b d d
  further : {d y : ℕ} (m k : ℕ) → among (buses_of b d) m ≡ true → among (kids_of b m) k ≡ true → Below b k y → Below b d y

-- all that is below it is gone; whoever else stood stands, on the bus and in the slot that it had; and nobody comes
pub record GoneLaw : Type 0 where
  pub gone : (b : Board) → SoundDevices b → (d : ℕ) → stands b d ≡ true → (y : ℕ) → Below b d y → stands (detach b d) y ≡ false
  pub left : (b : Board) → SoundDevices b → (d : ℕ) → stands b d ≡ true → (y : ℕ) → stands b y ≡ true → (Below b d y → ⊥) → stands (detach b d) y ≡ true
  pub bus : (b : Board) → SoundDevices b → (d : ℕ) → stands b d ≡ true → (y : ℕ) → stands (detach b d) y ≡ true → bus_of (detach b d) y ≡ bus_of b y
  pub slot : (b : Board) → SoundDevices b → (d : ℕ) → stands b d ≡ true → (y : ℕ) → stands (detach b d) y ≡ true
      → bus_slot_of (detach b d) y ≡ bus_slot_of b y
  pub none_comes : (b : Board) → SoundDevices b → (d : ℕ) → stands b d ≡ true → (y : ℕ) → stands (detach b d) y ≡ true → stands b y ≡ true
