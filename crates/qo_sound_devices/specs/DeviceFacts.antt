-- For a law alone. What the soundness of devices says of them, in the words of the tree.
use Rattle.std.specs.Prelude.{◌≡◌, ℕ, ◌≤◌, ◌<◌, true, Some, codes, List}
use Rattle.qo_values.specs.declared.limits.TheConstants.{BUS_DEPTH_MAX, BUS_SLOTS}
use Rattle.qo_model.specs.Board.{Board}
use Rattle.qo_model.specs.Devices.{bus_of, depth_of, is_realized, kid_at, bus_slot_of}
use Rattle.qo_model.specs.Paths.{attached, canonical, is_of}
use Rattle.qo_sound_devices.specs.SoundDevices.{SoundDevices}
use Rattle.qo_sound_devices.specs.SoundPlaces.{id_of, path_of, suits}

-- where a device is: on an attached bus for its type, which has it in one of its slots
pub record IsOnBus (b : Board) (d : ℕ) : Type 0 where
  pub bus : ℕ
  pub slot : ℕ
  pub on : bus_of b d ≡ Some bus
  pub at : bus_slot_of b d ≡ Some slot
  pub is_bus : is_of b (codes "bus") bus ≡ true
  pub fits : suits b bus d ≡ true
  pub home : attached b bus ≡ true
  pub low : slot < BUS_SLOTS
  pub there : kid_at b bus slot ≡ Some d

-- on a board that is sound so
pub record DevicesSayLaw : Type 0 where
  -- a device is realized where it is attached, and nowhere else; and then it is on a bus
  pub realized : (b : Board) → SoundDevices b → (d : ℕ) → is_of b (codes "device") d ≡ true → is_realized b d ≡ attached b d
  pub on_bus : (b : Board) → SoundDevices b → (d : ℕ) → is_realized b d ≡ true → IsOnBus b d
  -- the path that is kept for its end is its canonical path
  pub path : (b : Board) → SoundDevices b → (d : ℕ) → is_realized b d ≡ true → path_of b d ≡ canonical b d
  -- an id is that of one object
  pub one_id : (b : Board) → SoundDevices b → (d e : ℕ) (id : List ℕ) → id_of b d ≡ Some id → id_of b e ≡ Some id → d ≡ e
  -- no more than so many bridges stand above an attached bus
  pub depth : (b : Board) → SoundDevices b → (q : ℕ) → is_of b (codes "bus") q ≡ true → attached b q ≡ true → depth_of b q ≤ BUS_DEPTH_MAX
