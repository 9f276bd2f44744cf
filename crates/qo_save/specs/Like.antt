-- When two boards are alike: their trees by paths, and their rings (the profile's; docs/devel/qom.rst, "The QEMU Object Model": canonical paths, child and link).
use Rattle.std.specs.Prelude.{◌≡◌, ℕ, List, [], ◌∷◌, map, Option}
use Rattle.std.specs.List.{flat_map}
use Rattle.qo_values.specs.declared.births.TheConstants.{ROOT_BIRTH}
use Rattle.qo_values.specs.declared.kinds.TypeId.{TypeId}
use Rattle.qo_values.specs.declared.properties.Val.{Val}
use Rattle.qo_model.specs.Board.{Board, Slot, plain, child, strong, weak, alias, kind_of, slots_at}
use Rattle.qo_model.specs.Depth.{by_objects}
use Rattle.qo_model.specs.Paths.{births, children_of}
use Rattle.qo_model.specs.Properties.{path_text, target_text}
use Rattle.qo_save.specs.Described.{ring_item}

-- what shows of a slot: its value, the path of what it names, which is empty where it names nothing, or that it is another name for a property
pub data Shown : Type 0 where
  value : Val → Shown
  names : List ℕ → Shown
  other : Shown

abbrev pub shown : Board → Slot → Shown
shown b (plain v) = value v
shown b (child m) = names (path_text b m)
shown b (strong t target) = names (target_text b target)
shown b (weak t target) = names (target_text b target)
shown b (alias m name) = other

-- what shows of an object: its path, its type, and its slots in order; neither its birth nor its registers
pub record Sight : Type 0 where
  pub path : List ℕ
  pub kind : Option TypeId
  pub slots : List (List ℕ × Shown)

abbrev pub sight : Board → ℕ → Sight
sight b n = record { path = path_text b n; kind = kind_of b n; slots = map (λ (s : List ℕ × Slot). (s.0, shown b s.1)) (slots_at b n) }

-- the attached objects, each before those below it, in slot order
abbrev pub pre_turn : Board → (ℕ → List ℕ) → ℕ → List ℕ
pre_turn b f n = n ∷ flat_map f (children_of b n)

unfoldable pub preorder : Board → List ℕ
preorder b = by_objects (pre_turn b) (λ _. []) (births b) ROOT_BIRTH

-- the same shows of both; births, registers, bytes of rings, notes, time, holds and notices are not compared
pub record Like (b c : Board) : Type 0 where
  pub tree : map (sight b) (preorder b) ≡ map (sight c) (preorder c)
  pub rings : map ring_item b.rings ≡ map ring_item c.rings
