-- When a board is in order: ids are ids, births rise down its tree, and its objects are of types that have objects (docs/devel/qom.rst, "The QEMU Object
-- Model": abstract types, child properties; include/hw/qdev-core.h: buses and their children; QEMU's QAPI: ids; which texts are ids is the profile's).
use Rattle.std.specs.Prelude.{◌≡◌, ℕ, Bool, true, false, List, ◌∷◌, codes, Some}
use Rattle.std.specs.List.{AllByRecursion}
use Rattle.std.specs.Option.{option_map_or}
use Rattle.qo_values.specs.Ids.{is_id}
use Rattle.qo_values.specs.declared.births.TheConstants.{OBJECTS_BIRTH, PERIPHERAL_BIRTH}
use Rattle.qo_values.specs.declared.kinds.TypeId.{TypeId}
use Rattle.qo_model.specs.Board.{Board, Ring, kind_of}
use Rattle.qo_model.specs.Devices.{kids_of}
use Rattle.qo_model.specs.Paths.{children_of, is_of}
use Rattle.qo_model.specs.SoundGraph.{Rises}
use Rattle.qo_model.specs.Types.{TypeInfo, info_of}
use Rattle.qo_sound_devices.specs.SoundPlaces.{child_entries}

-- whether a type has no objects of its own, by its row
abbrev pub is_abstract : TypeId → Bool
is_abstract t = option_map_or (λ (row : TypeInfo). row.is_abstract) (info_of t) false

-- no object is of an abstract type
abbrev pub AllConcrete : Board → Type 0
AllConcrete b = (n : ℕ) (t : TypeId) → kind_of b n ≡ Some t → is_abstract t ≡ false

-- the name of what stands in a container is an id
abbrev pub HasId : List ℕ × ℕ → Type 0
HasId e = is_id e.0 ≡ true

-- a board is in order
pub record SoundOrder (b : Board) : Type 0 where
  -- each ring has an id, and so have the objects that users made and the devices that were added with one
  pub rings : AllByRecursion (λ (r : Ring). is_id r.id ≡ true) b.rings
  pub objects : AllByRecursion HasId (child_entries b OBJECTS_BIRTH)
  pub devices : AllByRecursion HasId (child_entries b PERIPHERAL_BIRTH)
  -- births rise from an object along its children, and from a bus along its kids
  pub children : (n : ℕ) → Rises (n ∷ children_of b n)
  pub kids : (bus : ℕ) → is_of b (codes "bus") bus ≡ true → Rises (bus ∷ kids_of b bus)
  -- no object is of an abstract type
  pub concrete : AllConcrete b
