-- When the owners of a board are sound (docs/devel/qom.rst, "The QEMU Object Model"; QEMU's QAPI, `object-add`: `UserCreatable`; the paths are the profile's).
use Rattle.std.specs.Prelude.{◌≡◌, ℕ, true, List, [], ◌∷◌, codes, Some}
use Rattle.std.specs.List.{AllByRecursion}
use Rattle.qo_values.specs.declared.births.TheConstants.{ANONYMOUS_BIRTH, OBJECTS_BIRTH, PERIPHERAL_BIRTH, ROOT_BIRTH}
use Rattle.qo_values.specs.declared.kinds.TypeId.TheVariants.{Container}
use Rattle.qo_model.specs.Board.{Board, kind_of}
use Rattle.qo_model.specs.Depth.{among}
use Rattle.qo_model.specs.Paths.{is_of}
use Rattle.qo_sound_devices.specs.SoundPlaces.{child_entries, path_of}
use Rattle.qo_sound_phases.specs.SoundPhases.{LoneMachine}

-- the containers of the machine: `/`, the containers of devices with an id and without, and `/objects`
abbrev pub containers : List ℕ
containers = ROOT_BIRTH ∷ PERIPHERAL_BIRTH ∷ ANONYMOUS_BIRTH ∷ OBJECTS_BIRTH ∷ []

-- the owners are sound
pub record SoundOwners (b : Board) : Type 0 where
  -- what stands in `/objects` is of the interface of objects that a user creates
  pub objects : AllByRecursion (λ (e : List ℕ × ℕ). is_of b (codes "user-creatable") e.1 ≡ true) (child_entries b OBJECTS_BIRTH)
  -- only a device has a path that is kept for its end
  pub paths : (d : ℕ) (path : List ℕ) → path_of b d ≡ Some path → is_of b (codes "device") d ≡ true
  -- an object of the type of containers is one of the machine's
  pub shelves : (n : ℕ) → kind_of b n ≡ Some Container → among containers n ≡ true
  -- there is one machine
  pub lone : LoneMachine b
