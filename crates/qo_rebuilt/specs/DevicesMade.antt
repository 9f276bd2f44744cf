-- For a law alone. What adding a device makes of a board, as its description tells it, before any clock of a device multiplies or divides and before any link
-- is written (QEMU's QAPI, `device_add`).
use Rattle.std.specs.Prelude.{◌≡◌, ℕ, ◌+◌, ◌≤◌, suc, true, List, [], ◌∷◌, ◌++◌, length, map, None, codes, Ok}
use Rattle.std.specs.List.{AllByRecursion, sum_by}
use Rattle.qo_values.specs.Kinds.{type_name}
use Rattle.qo_values.specs.declared.births.TheConstants.{OPENING_OBJECTS}
use Rattle.qo_values.specs.declared.kinds.TypeId.{TypeId}
use Rattle.qo_values.specs.declared.kinds.TypeId.TheVariants.{SlotBridge}
use Rattle.qo_values.specs.declared.limits.TheConstants.{LIVE_OBJECTS_MAX}
use Rattle.qo_model.specs.Board.{Board}
use Rattle.qo_model.specs.Paths.{found, is_of, resolve}
use Rattle.qo_model.specs.Plug.{barred_early, barred_late, bus_type, with_plugged, resources_of}
use Rattle.qo_model.specs.Properties.{path_text}
use Rattle.qo_save.specs.Description.{Description, DeviceItem}
use Rattle.qo_save.specs.Rebuilding.{add_device, wanted_by}
use Rattle.qo_good.specs.Good.{AreIds, bus_path, EachAfter, IsGoodDevice, Layout, objects_of}
use Rattle.qo_rebuilt.specs.Made.{Makes, Tells}

-- what a device finds that is added: its bus is at its path, and nothing refuses it
pub record IsPlugged (b : Board) (kind : TypeId) (x : DeviceItem) : Type 0 where
  pub bus : ℕ
  pub at : resolve b x.bus (codes "bus") ≡ found bus
  pub told : path_text b bus ≡ x.bus
  pub fits : is_of b (bus_type kind) bus ≡ true
  pub early : barred_early b kind (wanted_by x) ≡ None
  pub late : barred_late b kind bus (wanted_by x).props ≡ None

-- the board after it, with its notice taken
abbrev pub with_taken : Board → TypeId → ℕ → DeviceItem → Board
with_taken b t bus x = record (with_plugged b t (wanted_by x) (resources_of b t bus (wanted_by x).props)) { notices = [] }

-- the devices that a board tells are good by a layout, as far as their places go; each clock goes as the system's
pub record AreLaid (d : Description) (l : Layout) : Type 0 where
  pub devices : EachAfter (IsGoodDevice d l) [] d.devices
  pub root : l.depth (codes "/machine/root.0") ≡ 0
  pub bridges : AllByRecursion (λ (y : DeviceItem). y.driver ≡ type_name SlotBridge → l.depth (bus_path y.id) ≡ suc (l.depth y.bus)) d.devices

-- the next device is plugged, where there is room
pub record NextPluggedLaw : Type 0 where
  pub next : (b : Board) (d : Description) (l : Layout) (x : DeviceItem) → Tells b d → d.clocks ≡ [] → d.links ≡ [] → AreLaid d l
      → (good : IsGoodDevice d l d.devices x)
      → AreIds (map (λ (y : DeviceItem). y.id) (d.devices ++ x ∷ []))
      → OPENING_OBJECTS + length d.objects + sum_by objects_of (d.devices ++ x ∷ []) ≤ LIVE_OBJECTS_MAX → IsPlugged b good.kind x

-- a device that nothing refuses is added, and told after the others
pub record IsMade (b : Board) (d : Description) (x : DeviceItem) : Type 0 where
  pub after : Board
  pub done : add_device x b ≡ Ok after
  pub tells : Tells after (record d { devices = d.devices ++ x ∷ [] })

pub record PluggedMadeLaw : Type 0 where
  pub made : (b : Board) (d : Description) (l : Layout) (x : DeviceItem) → Tells b d → d.clocks ≡ [] → d.links ≡ []
      → (good : IsGoodDevice d l d.devices x) → IsPlugged b good.kind x → IsMade b d x

-- so good devices are added in order, after the users' objects
pub record DevicesMadeLaw : Type 0 where
  pub devices : (b : Board) (d : Description) (l : Layout) (xs : List DeviceItem) → Tells b d → d.clocks ≡ [] → d.links ≡ []
      → AreLaid (record d { devices = d.devices ++ xs }) l
      → AreIds (map (λ (y : DeviceItem). y.id) (d.devices ++ xs))
      → OPENING_OBJECTS + length d.objects + sum_by objects_of (d.devices ++ xs) ≤ LIVE_OBJECTS_MAX
      → Makes (map add_device xs) b (record d { devices = d.devices ++ xs })
