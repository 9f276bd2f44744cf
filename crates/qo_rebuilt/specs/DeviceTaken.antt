-- For a law alone. Which devices are not refused (QEMU's QAPI, `device_add`).
use Rattle.std.specs.Prelude.{◌≡◌, ◌+◌, ◌≤◌, [], ◌∷◌, ◌++◌, length, map, None}
use Rattle.std.specs.List.{sum_by}
use Rattle.qo_values.specs.declared.births.TheConstants.{OPENING_OBJECTS}
use Rattle.qo_values.specs.declared.limits.TheConstants.{LIVE_OBJECTS_MAX}
use Rattle.qo_model.specs.Board.{Board}
use Rattle.qo_model.specs.Plug.{plug}
use Rattle.qo_save.specs.Description.{Description, DeviceItem}
use Rattle.qo_save.specs.Rebuilding.{wanted_by}
use Rattle.qo_good.specs.Good.{AreIds, IsGoodDevice, Layout, objects_of}
use Rattle.qo_rebuilt.specs.DevicesMade.{AreLaid}
use Rattle.qo_rebuilt.specs.Made.{Tells}

-- a good device after those that a board tells, whose id is no other's, is plugged where there is room for its objects
pub record DeviceTakenLaw : Type 0 where
  pub taken : (b : Board) (d : Description) (l : Layout) (x : DeviceItem) → Tells b d → AreLaid d l → IsGoodDevice d l d.devices x
      → AreIds (map (λ (y : DeviceItem). y.id) (d.devices ++ x ∷ []))
      → OPENING_OBJECTS + length d.objects + sum_by objects_of (d.devices ++ x ∷ []) ≤ LIVE_OBJECTS_MAX → (plug b (wanted_by x)).refusal ≡ None
