-- Release: letting go of what a slot holds, and finalizing an object whose last holder went (docs/devel/qom.rst, "The QEMU Object Model": reference counting,
-- `object_unref`, `object_finalize`).
use Rattle.std.specs.Prelude.{ℕ, zero, suc, ◌==◌, leb, nat_eq, true, false, not, if◌then◌else◌, List, [], ◌∷◌, ◌++◌, map, filter, length, sum_by, count_by, Option, Some, None, is_some, option_map, option_and_then, option_to_list}
use Rattle.std.specs.List.{list_any}
use Rattle.std.specs.Option.{option_map_or}
use Rattle.qo_values.specs.declared.kinds.TypeId.{TypeId}
use Rattle.qo_model.specs.declared.notes.Deed.TheVariants.{Final}
use Rattle.qo_model.specs.declared.notes.Note.{Note}
use Rattle.qo_model.specs.Board.{Board, Record, Slot, DeviceEvent, child, strong, weak, record_of, slot_at, referent}
use Rattle.qo_model.specs.References.{refs}
use Rattle.qo_model.specs.Types.{finals}

-- an object, changed where it is n; and the board with the object n changed
abbrev pub edited : ℕ → (Record → Record) → Record → Record
edited n change r = if r.birth == n then change r else r

abbrev pub edit : ℕ → (Record → Record) → Board → Board
edit n change b = record b { records = map (edited n change) b.records }

-- what is left of a slot that is let go: nothing of a child slot, and a link without a target; a plain slot and an alias stay
abbrev pub emptied : Slot → Option Slot
emptied (child m) = None
emptied (strong t target) = Some (strong t None)
emptied (weak t target) = Some (weak t None)
emptied s = Some s

-- slots, of which the one at a place was let go
abbrev pub without_hold : ℕ → List (List ℕ × Slot) → List (List ℕ × Slot)
without_hold i [] = []
without_hold zero (s ∷ slots) = elim (emptied s.1) [ None ↦ slots | Some left ↦ (s.0, left) ∷ slots ]
without_hold (suc i) (s ∷ slots) = s ∷ without_hold i slots

-- the slot of n at a place is let go, and nothing is finalized
abbrev pub with_dropped : ℕ → Record → Record
with_dropped i r = record r { slots = without_hold i r.slots }

unfoldable pub drop_slot : Board → ℕ → ℕ → Board
drop_slot b n i = edit n (with_dropped i) b

-- the place that comes next: after a child slot that was let go the next slot has the same place
abbrev pub next_index : Slot → ℕ → ℕ
next_index (child m) i = i
next_index _ i = suc i

-- a weak link that names n is emptied
abbrev pub forgotten_in : ℕ → Slot → Slot
forgotten_in n (weak t (Some m)) = weak t (if m == n then None else Some m)
forgotten_in n s = s

abbrev pub forgotten : ℕ → Record → Record
forgotten n r = record r { slots = map (λ (s : List ℕ × Slot). (s.0, forgotten_in n s.1)) r.slots }

-- a note for each finalizer of an object's type, derived first
abbrev pub final_notes : Record → List Note
final_notes r = map (λ (t : TypeId). record { birth = r.birth; deed = Final t }) (finals r.kind)

-- the event of an object that has a path kept for its end
abbrev pub deleted_event : Record → Option DeviceEvent
deleted_event r = option_map (λ (path : List ℕ). record { deleted = true; id = r.device_id; path = path }) r.kept_path

-- the end of n, whose slots were let go: its final notes, the weak links that name it emptied, its event, and it is gone
unfoldable pub finish : Board → ℕ → Board
finish b n =
    record b {
      records = map (forgotten n) (filter (λ (r : Record). not (r.birth == n)) b.records);
      notes = b.notes ++ option_map_or final_notes (record_of b n) [];
      events = b.events ++ option_to_list (option_and_then deleted_event (record_of b n));
    }

-- how many child slots and strong links that are not empty there are, and how many slots
abbrev pub holding : Board → ℕ
holding b = sum_by (λ (r : Record). count_by (λ (s : List ℕ × Slot). is_some (referent s.1)) r.slots) b.records

abbrev pub width : Board → ℕ
width b = sum_by (λ (r : Record). length r.slots) b.records

-- after the letting go of a slot that held an object, if it held one: this is finalized where nothing refers to it any more
abbrev pub after : (Board → ℕ → Board) → Board → Option ℕ → Board
after finalize b None = b
after finalize b (Some m) = elim (refs b m == 0) [ true ↦ finalize b m | false ↦ b ]

-- the slots of n from a place on are let go, in order, at most so many
abbrev pub from_index : (Board → ℕ → Board) → ℕ → Board → ℕ → ℕ → Board
from_index finalize zero b n i = b
from_index finalize (suc places) b n i =
    elim (slot_at b n i) [
      | None ↦ b
      | Some s ↦ from_index finalize places (after finalize (drop_slot b n i) (referent s)) n (next_index s i)
    ]

-- one finalization: each slot is let go, in order, and then the object ends
abbrev pub finalize_by : (Board → ℕ → Board) → Board → ℕ → Board
finalize_by finalize b n = finish (from_index finalize (width b) b n 0) n

-- to a depth; each further finalization follows a slot that held an object and was let go, so the number of these bounds it
unfoldable pub finalize_within : ℕ → Board → ℕ → Board
finalize_within zero b n = b
finalize_within (suc depth) b n = finalize_by (finalize_within depth) b n

-- n is finalized
unfoldable pub finalize : Board → ℕ → Board
finalize b n = finalize_within (suc (holding b)) b n

-- the slot of an owner at a place is let go, and what it held is finalized where nothing refers to it any more
unfoldable pub let_go : Board → ℕ → ℕ → Board
let_go b owner i = elim (slot_at b owner i) [ None ↦ b | Some s ↦ after finalize (drop_slot b owner i) (referent s) ]

-- a list without the first n in it
abbrev pub without_first : ℕ → List ℕ → List ℕ
without_first n [] = []
without_first n (m ∷ ms) = if m == n then ms else m ∷ without_first n ms

-- a list in rising order, with n put among it in its order
abbrev pub put_in_order : ℕ → List ℕ → List ℕ
put_in_order n [] = n ∷ []
put_in_order n (m ∷ ms) = if leb m n then m ∷ put_in_order n ms else n ∷ m ∷ ms

-- n is held from outside the tree once more
unfoldable pub pin : Board → ℕ → Board
pin b n = record b { pins = put_in_order n b.pins }

-- n is held from outside once less, and is finalized where nothing refers to it any more; an object that is not so held stays
abbrev pub without_pin : Board → ℕ → Board
without_pin b n = record b { pins = without_first n b.pins }

unfoldable pub unpin : Board → ℕ → Board
unpin b n = elim (list_any (nat_eq n) b.pins) [ true ↦ after finalize (without_pin b n) (Some n) | false ↦ b ]
