-- For proofs alone. What the table keeps of an object beside it: how many slots hold it, and its parent.
use Rattle.std.specs.Prelude.{◌≡◌, ℕ, ◌+◌, ◌-◌, ◌≤◌, ◌^◌, Bool, true, false, if◌then◌else◌, List, [], ◌∷◌, map, length, filter_map, find, sum_by, count_by, Option, None, Some, option_map}
use Rattle.std.specs.List.{AllByRecursion}
use Rattle.std.specs.Option.{option_and_then}
use Rattle.qo_slots.specs.declared.keys.Key.{Key}
use Rattle.qo_object.specs.declared.slots.Slot.{Slot}
use Rattle.qo_object.specs.declared.slots.Slot.TheVariants.{Child, Link}
use Rattle.qo_object.specs.Slots.{Named, names_child, slot_in}
use Rattle.qo_object.specs.Content.{Content, forgotten, holding, is_parent}
use Rattle.qo_heap.specs.Rows.{edit}
use Rattle.qo_heap.specs.declared.entries.Entry.{Entry}
use Rattle.qo_heap.specs.declared.entries.Hold.{Hold}

-- rows without what is kept
abbrev pub plain_row : Key × Entry → Key × Content
plain_row row = (row.0, row.1.object)

abbrev pub plain : List (Key × Entry) → List (Key × Content)
plain rows = map plain_row rows

-- what a slot holds, what the slot at a place holds, and what slots hold, in order
abbrev pub hold_of : Slot → Option Hold
hold_of (Child key) = Some (record { key = key; child = true })
hold_of (Link ty true target) = option_map (λ (key : Key). record { key = key; child = false }) target
hold_of _ = None

abbrev pub hold_at : List Named → ℕ → Option Hold
hold_at slots i = option_and_then hold_of (slot_in slots i)

abbrev pub holds_in : List Named → List Hold
holds_in slots = filter_map (λ (s : Named). hold_of s.1) slots

-- an object that no slot holds
abbrev pub unheld : Content → Entry
unheld c = record { object = c; held = 0; parent = None; links = record { first = None; nodes = [] } }

-- the object is changed, and what is kept of it stays
abbrev pub with_object : (Content → Content) → Entry → Entry
with_object change e = record e { object = change e.object }

-- the weak links that name another object are emptied
abbrev pub entry_forgets : ℕ → Key × Entry → Key × Entry
entry_forgets n row = (row.0, with_object (forgotten n) row.1)

-- a slot of an owner more holds it, whose child it is where it is a child slot; and a slot less
abbrev pub more_held : Bool → Key → Entry → Entry
more_held child owner e = record e { held = e.held + 1; parent = if child then Some owner else e.parent }

abbrev pub less_held : Bool → Entry → Entry
less_held child e = record e { held = e.held - 1; parent = if child then None else e.parent }

-- the same for each of some holds
abbrev pub all_more : Key → List Hold → List (Key × Entry) → List (Key × Entry)
all_more owner [] rows = rows
all_more owner (h ∷ hs) rows = all_more owner hs (edit h.key.birth (more_held h.child owner) rows)

abbrev pub all_less : List Hold → List (Key × Entry) → List (Key × Entry)
all_less [] rows = rows
all_less (h ∷ hs) rows = all_less hs (edit h.key.birth (less_held h.child) rows)

-- how many slots hold the object of a birth
abbrev pub holders : ℕ → List (Key × Content) → ℕ
holders n rows = sum_by (λ (row : Key × Content). holding n row.1) rows

-- how many child slots name it
abbrev pub children : ℕ → Content → ℕ
children n c = count_by (λ (s : Named). names_child n s.1) c.slots

abbrev pub owners : ℕ → List (Key × Content) → ℕ
owners n rows = sum_by (λ (row : Key × Content). children n row.1) rows

-- its parent: the first that has it as a child
abbrev pub parent_in : List (Key × Content) → ℕ → Option Key
parent_in rows n = option_map (λ (row : Key × Content). row.0) (find (λ (row : Key × Content). is_parent n row.1) rows)

-- what is kept of an object is what the slots of these objects say
pub record IsCounted (rows : List (Key × Content)) (row : Key × Entry) : Type 0 where
  pub held : row.1.held ≡ holders row.0.birth rows
  pub parent : row.1.parent ≡ parent_in rows row.0.birth

-- an object has few enough slots to count them
abbrev pub IsShort : Key × Content → Type 0
IsShort row = length row.1.slots ≤ 2 ^ 32

-- of each object what is kept is so; and no object is a child twice
pub record IsKept (rows : List (Key × Entry)) : Type 0 where
  pub once : (n : ℕ) → owners n (plain rows) ≤ 1
  pub short : AllByRecursion IsShort (plain rows)
  pub counts : AllByRecursion (IsCounted (plain rows)) rows
