-- Removals that are asked for, and what the guest answers (QEMU's QAPI, `device_del`; include/hw/hotplug.h; the order of refusals is the profile's); the reset
-- of the whole board.
use Rattle.std.specs.List.{list_any}
use Rattle.std.specs.Prelude.{ℕ, zero, suc, ◌+◌, Bool, false, not, ◌==◌, ◌&&◌, ◌||◌, nat_lt, map, slice_get, if◌then◌else◌, List, [], ◌∷◌, ◌++◌, filter, length, codes, option_and_then, option_map, option_to_list, Option, None, Some, is_some}
use Rattle.qo_values.specs.declared.births.TheConstants.{MACHINE_BIRTH, PERIPHERAL_BIRTH}
use Rattle.qo_values.specs.declared.kinds.ResetKind.TheVariants.{Cold, Wakeup}
use Rattle.qo_values.specs.declared.limits.TheConstants.{ASK_AGAIN_AFTER}
use Rattle.qo_values.specs.declared.codes.Code.TheVariants.{E33, E34, E35}
use Rattle.qo_model.specs.Board.{Board, DeviceEvent, Notice, Record, Removal, is_of_device, record_of, slot_named}
use Rattle.qo_model.specs.Objects.{Changed}
use Rattle.qo_model.specs.Paths.{attached, child_of, is_absolute, resolve_absolute}
use Rattle.qo_model.specs.Plug.{notice_barred}
use Rattle.qo_model.specs.Reset.{pulse}
use Rattle.qo_model.specs.Unplug.{detach, without_removal}

-- the device that a text is of: of one that begins with `/` the device at that absolute path, of any other the child of that name in the container of devices
-- with an id
abbrev pub device_at : Board → List ℕ → Option ℕ
device_at b id =
    if is_absolute id then resolve_absolute b id (codes "device")
    else option_and_then child_of (slot_named b PERIPHERAL_BIRTH id)

-- the removal of a device is asked for: one that is pending keeps its place, and its time is the present one; any other comes last
abbrev pub asked_at : ℕ → ℕ → Removal → Removal
asked_at d now r = if r.birth == d then record r { asked = now } else r

abbrev pub with_removal : ℕ → ℕ → List Removal → List Removal
with_removal d now rs = if list_any (is_of_device d) rs then map (asked_at d now) rs else rs ++ record { birth = d; asked = now } ∷ []

-- and the guest has a notice of it
abbrev pub with_asked : Board → ℕ → Board
with_asked b d = record b { pending = with_removal d b.now b.pending; notices = b.notices ++ record { plug = false; birth = d } ∷ [] }

-- whether it is too early to ask for the removal of a device: it was asked for less than `ASK_AGAIN_AFTER` ns ago
abbrev pub is_early : Board → ℕ → Bool
is_early b d = list_any (λ (r : Removal). is_of_device d r && nat_lt b.now (r.asked + ASK_AGAIN_AFTER)) b.pending

-- the removal of a device is asked for: it is in the tree, was not asked for a short while ago, and there is room for a notice
abbrev pub asked_of : Board → ℕ → Changed
asked_of b d =
    if not (attached b d) then record { refusal = Some E35; board = b }
    else if is_early b d then record { refusal = Some E34; board = b }
    else if is_some (notice_barred b) then record { refusal = notice_barred b; board = b }
    else record { refusal = None; board = with_asked b d }

-- `device_del`
abbrev pub asked : Board → List ℕ → Changed
asked b id = elim (device_at b id) [ None ↦ record { refusal = Some E33; board = b } | Some d ↦ asked_of b d ]

-- the event of a device whose removal the guest refuses
abbrev pub refused_event : Record → Option DeviceEvent
refused_event r = option_map (λ (path : List ℕ). record { deleted = false; id = r.device_id; path = path }) r.kept_path

-- the guest refuses the removal of d: it is neither pending nor told any more, however often it was asked for; that d was plugged in is still told
abbrev pub refused : Board → ℕ → Board
refused b d =
    record b {
      pending = without_removal d b.pending;
      notices = filter (λ (x : Notice). x.plug || not (x.birth == d)) b.notices;
      events = b.events ++ option_to_list (option_and_then refused_event (record_of b d));
    }

-- the guest lets d go
abbrev pub completed : Board → ℕ → Board
completed b d = detach b d

-- at most so many times the first device whose removal is pending is let go, if there is one
abbrev pub all_completed : ℕ → Board → Board
all_completed zero b = b
all_completed (suc times) b = elim (slice_get b.pending 0) [ None ↦ b | Some r ↦ all_completed times (completed b r.birth) ]

-- the whole board is reset, cold: the removals that are pending come to their end, and then the machine goes through its phases
unfoldable pub reset_whole : Board → Board
reset_whole b = pulse (all_completed (length b.pending) b) MACHINE_BIRTH Cold

-- the machine wakes up; no removal comes to its end by that
abbrev pub woken : Board → Board
woken b = pulse b MACHINE_BIRTH Wakeup
