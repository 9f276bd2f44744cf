-- For a law alone. What the shape of objects says of their properties (include/qom/object.h: properties, child and link).
use Rattle.std.specs.Prelude.{◌≡◌, ℕ, true, List, [], ◌∷◌, codes, Option, Some}
use Rattle.std.specs.List.{AllByRecursion}
use Rattle.qo_values.specs.declared.kinds.TypeId.{TypeId}
use Rattle.qo_values.specs.declared.kinds.TypeId.TheVariants.{Clock}
use Rattle.qo_values.specs.declared.properties.Val.TheVariants as val
use Rattle.qo_model.specs.Board.{Board, Slot, plain, child, strong, kind_of, slot_at, slot_named}
use Rattle.qo_model.specs.Paths.{is_of}
use Rattle.qo_model.specs.Properties.{property_named}
use Rattle.qo_model.specs.declared.properties.Property.{Property}
use Rattle.qo_model.specs.declared.properties.PropertyRole.TheVariants as row
use Rattle.qo_sound_devices.specs.SoundPlaces.{stands}
use Rattle.qo_sound_shapes.specs.SoundShape.{HasRole, SoundShape}

-- an object of a type, and the row of its property of a name
pub record HasProperty (b : Board) (n : ℕ) (name : List ℕ) (p : Property) : Type 0 where
  pub kind : TypeId
  pub its : kind_of b n ≡ Some kind
  pub row : property_named kind name ≡ Some p

-- an object has a number under a name
abbrev pub HoldsNumber : Board → ℕ → List ℕ → Type 0
HoldsNumber b n name = (v : ℕ) × (slot_named b n name ≡ Some (plain (val.Uint v)))

-- on a board whose objects are shaped as their types say
pub record ShapesSayLaw : Type 0 where
  -- what an object has under the name of a property is as the property's row says
  pub named : (b : Board) → SoundShape b → (n : ℕ) (name : List ℕ) (p : Property) (s : Slot) → HasProperty b n name p → slot_named b n name ≡ Some s
      → HasRole p.role s
  -- and where it is a child, it is of the row's type
  pub child : (b : Board) → SoundShape b → (n m : ℕ) (name : List ℕ) (p : Property) (t : TypeId) → HasProperty b n name p → p.role ≡ row.Child t
      → slot_named b n name ≡ Some (child m) → kind_of b m ≡ Some t
  -- and a device that stands in a container has something there
  pub there : (b : Board) → SoundShape b → (d : ℕ) (name : List ℕ) (p : Property) → stands b d ≡ true → HasProperty b d name p
      → (s : Slot) × ((slot_named b d name ≡ Some s) × HasRole p.role s)
  -- a clock's period, mul and div are numbers, and so is the size of a memory backend
  pub clock : (b : Board) → SoundShape b → (c : ℕ) → kind_of b c ≡ Some Clock
      → AllByRecursion (HoldsNumber b c) (codes "period" ∷ codes "mul" ∷ codes "div" ∷ [])
  pub memory : (b : Board) → SoundShape b → (m : ℕ) → is_of b (codes "memory-backend") m ≡ true → HoldsNumber b m (codes "size")
  -- no strong link of a bus is empty
  pub kid : (b : Board) → SoundShape b → (bus i : ℕ) (to : TypeId) (target : Option ℕ) → is_of b (codes "bus") bus ≡ true
      → slot_at b bus i ≡ Some (strong to target) → (d : ℕ) × (target ≡ Some d)
