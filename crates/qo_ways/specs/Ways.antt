-- For a law alone. Where canonical paths lead (docs/devel/qom.rst, "The QEMU Object Model": canonical paths).
use Rattle.std.specs.Prelude.{◌≡◌, ◌≢◌, ◌==◌, ℕ, false, List, [], codes, Some}
use Rattle.std.specs.List.{AllByRecursion, list_any}
use Rattle.qo_values.specs.declared.births.TheConstants.{ROOT_BIRTH}
use Rattle.qo_model.specs.Board.{Board}
use Rattle.qo_model.specs.Paths.{canonical, components, found, path_down_to, resolve, walk}
use Rattle.qo_sound.specs.TreeKept.{SoundTree}
use Rattle.qo_sound_devices.specs.SoundDevices.{SoundDevices}
use Rattle.qo_sound_devices.specs.SoundPlaces.{child_entries}
use Rattle.qo_sound_order.specs.SoundOrder.{SoundOrder}
use Rattle.qo_sound_shapes.specs.SoundOwners.{SoundOwners}
use Rattle.qo_sound_shapes.specs.SoundShape.{SoundShape}

-- a name is one step of a path: it is not empty and holds no `/`
abbrev pub IsStep : List ℕ × ℕ → Type 0
IsStep e = (e.0 ≢ []) × (list_any (λ (c : ℕ). c == 47) e.0 ≡ false)

-- each child has such a name
abbrev pub HasSteps : Board → Type 0
HasSteps b = (p : ℕ) → AllByRecursion IsStep (child_entries b p)

-- a board is sound as far as devices go, shaped as its types say, and in order
pub record IsInOrder (b : Board) : Type 0 where
  pub devices : SoundDevices b
  pub shape : SoundShape b
  pub owners : SoundOwners b
  pub order : SoundOrder b

pub record WaysLaw : Type 0 where
  -- the steps down to an object lead to it
  pub steps : (b : Board) → SoundTree b → HasSteps b → (n : ℕ) (q : List ℕ) → path_down_to b n ≡ Some q → walk b ROOT_BIRTH (components q) ≡ Some n
  -- the name of each child is one step
  pub named : (b : Board) → IsInOrder b → HasSteps b
  -- the canonical path of an object is its alone
  pub canonical_leads : (b : Board) → IsInOrder b → (n : ℕ) (path : List ℕ) → canonical b n ≡ Some path → resolve b path (codes "object") ≡ found n
