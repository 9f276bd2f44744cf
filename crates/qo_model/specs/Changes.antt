-- The changes of the board by calls on one object: it is made, and its slots are added, pointed, set and cut (docs/devel/qom.rst, "The QEMU Object Model";
-- include/qom/object.h).
use Rattle.std.specs.Prelude.{ℕ, zero, suc, ◌+◌, List, [], ◌∷◌, ◌++◌, remove, Some, None}
use Rattle.qo_values.specs.Registers.{fresh_registers}
use Rattle.qo_values.specs.declared.kinds.TypeId.{TypeId}
use Rattle.qo_values.specs.declared.properties.Val.{Val}
use Rattle.qo_model.specs.Board.{Board, Record, Slot, plain, strong, weak}
use Rattle.qo_model.specs.Opening.{fresh_slots}
use Rattle.qo_model.specs.Release.{edit, put_in_order}

-- an object as it begins: without slots, its body as a new one, and of a device no id and no path
abbrev pub fresh : ℕ → TypeId → Record
fresh birth kind = record { birth = birth; kind = kind; slots = []; registers = fresh_registers kind; device_id = None; kept_path = None }

-- an object of a type is made: it has the next birth, stands after the others, and is held once from outside the tree
unfoldable pub make : TypeId → Board → Board
make kind b = record b { records = b.records ++ fresh (b.born + 1) kind ∷ []; born = b.born + 1; pins = put_in_order (b.born + 1) b.pins }

-- a link that points at m; any other slot stays
abbrev pub pointed : ℕ → Slot → Slot
pointed m (strong t target) = strong t (Some m)
pointed m (weak t target) = weak t (Some m)
pointed m s = s

-- a plain slot with a value; any other slot stays
abbrev pub with_val : Val → Slot → Slot
with_val val (plain old) = plain val
with_val val s = s

-- slots, of which the one at a place is changed; nothing is past the end
abbrev pub changed_at : (Slot → Slot) → ℕ → List (List ℕ × Slot) → List (List ℕ × Slot)
changed_at change i [] = []
changed_at change zero (s ∷ slots) = (s.0, change s.1) ∷ slots
changed_at change (suc i) (s ∷ slots) = s ∷ changed_at change i slots

-- an object whose slot at a place is changed; without the slot at a place; with a slot more, after the others
abbrev pub with_changed : (Slot → Slot) → ℕ → Record → Record
with_changed change i r = record r { slots = changed_at change i r.slots }

abbrev pub with_cut : ℕ → Record → Record
with_cut i r = record r { slots = remove r.slots i }

abbrev pub with_added : List ℕ → Slot → Record → Record
with_added name slot r = record r { slots = r.slots ++ (name, slot) ∷ [] }

-- the link of n at a place points at m
unfoldable pub point : ℕ → ℕ → ℕ → Board → Board
point n i m b = edit n (with_changed (pointed m) i) b

-- the plain slot of n at a place has a value
unfoldable pub set : ℕ → ℕ → Val → Board → Board
set n i val b = edit n (with_changed (with_val val) i) b

-- the slot of n at a place is removed
unfoldable pub cut : ℕ → ℕ → Board → Board
cut n i b = edit n (with_cut i) b

-- n has a slot more, after the others
unfoldable pub add : ℕ → List ℕ → Slot → Board → Board
add n name slot b = edit n (with_added name slot) b

-- n has the slots of a new object of a type too, after the others: its plain properties with their first values, and its links without targets
abbrev pub with_fresh : TypeId → Record → Record
with_fresh kind r = record r { slots = r.slots ++ fresh_slots kind }

unfoldable pub with_fresh_slots : ℕ → TypeId → Board → Board
with_fresh_slots n kind b = edit n (with_fresh kind) b
