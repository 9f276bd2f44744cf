-- For a law alone. Where devices are, in the words of the tree: in which container and under which name, on which bus and in which slot.
use Rattle.std.specs.Prelude.{◌≡◌, ◌&&◌, ℕ, ◌≤◌, ◌<◌, true, List, [], ◌∷◌, codes, Some, None}
use Rattle.qo_values.specs.declared.births.TheConstants.{ANONYMOUS_BIRTH, PERIPHERAL_BIRTH}
use Rattle.qo_values.specs.declared.limits.TheConstants.{BUS_DEPTH_MAX}
use Rattle.qo_model.specs.Board.{Board}
use Rattle.qo_model.specs.Depth.{among}
use Rattle.qo_model.specs.Devices.{anonymous_name, bus_of, bus_slot_of, depth_of, is_realized, kid_at}
use Rattle.qo_model.specs.Paths.{attached, canonical, is_of, parent_of, place_of}
use Rattle.qo_sound.specs.TreeKept.{SoundTree}
use Rattle.qo_sound_devices.specs.DeviceFacts.{IsOnBus}
use Rattle.qo_sound_devices.specs.SoundPlaces.{id_of, path_of, SoundPlaces}
use Rattle.qo_sound_shapes.specs.SoundOwners.{SoundOwners}
use Rattle.qo_sound_shapes.specs.SoundShape.{SoundShape}

-- where a device stands: at `/machine/peripheral` under its id, or, if it has none, at `/machine/peripheral-anon` under a number given before
pub data IsNamed (b : Board) (d : ℕ) : Type 0 where
  by_id : (id : List ℕ) → id_of b d ≡ Some id → place_of b d ≡ Some (PERIPHERAL_BIRTH, id) → IsNamed b d
  by_number : (n : ℕ) → id_of b d ≡ None → n < b.anonymous → place_of b d ≡ Some (ANONYMOUS_BIRTH, anonymous_name n) → IsNamed b d

-- the place of a device
pub record HasPlace (b : Board) (d : ℕ) : Type 0 where
  -- it is on an attached bus for its type, which has it in one of its slots
  pub on : IsOnBus b d
  -- it stands in a container of devices, under its name
  pub named : IsNamed b d
  -- the path that is kept for its end is its canonical path
  pub path : path_of b d ≡ canonical b d

-- where devices are
pub record PlainPlaces (b : Board) : Type 0 where
  -- what stands in a container of devices is a device
  pub contained : (m p : ℕ) → parent_of b m ≡ Some p → among (PERIPHERAL_BIRTH ∷ ANONYMOUS_BIRTH ∷ []) p ≡ true → is_of b (codes "device") m ≡ true
  -- the devices that are attached are realized, and nothing else is
  pub realized : (d : ℕ) → is_realized b d ≡ (is_of b (codes "device") d && attached b d)
  -- each of them has its place
  pub each : (d : ℕ) → is_realized b d ≡ true → HasPlace b d
  -- what a bus has in a slot is realized, and it is on this bus, in this slot
  pub kids : (q slot d : ℕ) → is_of b (codes "bus") q ≡ true → kid_at b q slot ≡ Some d
      → (is_realized b d ≡ true) × ((bus_of b d ≡ Some q) × (bus_slot_of b d ≡ Some slot))
  -- an id is a device's, and no other's
  pub ids : (d : ℕ) (id : List ℕ) → id_of b d ≡ Some id → is_of b (codes "device") d ≡ true
  pub once : (d e : ℕ) (id : List ℕ) → id_of b d ≡ Some id → id_of b e ≡ Some id → d ≡ e
  -- no more than so many bridges stand above an attached bus
  pub depth : (q : ℕ) → is_of b (codes "bus") q ≡ true → attached b q ≡ true → depth_of b q ≤ BUS_DEPTH_MAX

-- the soundness of places says this on a board whose tree is sound; and it says no more, where objects are shaped as their types say and the owners are sound
pub record PlacesLaw : Type 0 where
  pub says : (b : Board) → SoundTree b → SoundPlaces b → PlainPlaces b
  pub is : (b : Board) → SoundTree b → SoundShape b → SoundOwners b → PlainPlaces b → SoundPlaces b
