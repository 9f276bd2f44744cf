-- For proofs alone. What a slot names and holds, and what slots by place are once one of them changed (docs/devel/qom.rst, "The QEMU Object Model").
use Rattle.std.specs.Prelude.{ℕ, zero, suc, Bool, true, false, ◌==◌, if◌then◌else◌, List, [], ◌∷◌, map, slice_get, Option, Some, None, option_map}
use Rattle.std.specs.List.{list_any}
use Rattle.std.specs.Option.{option_and_then}
use Rattle.std.specs.Str.{bytes_eq}
use Rattle.qo_values.specs.declared.properties.Val.{Val}
use Rattle.qo_slots.specs.declared.keys.Key.{Key}
use Rattle.qo_object.specs.declared.slots.Slot.{Slot}
use Rattle.qo_object.specs.declared.slots.Slot.TheVariants.{Plain, Child, Link}

-- one slot

-- the object that a slot names: a child, or the target of a link that is not empty
abbrev pub target_of : Slot → Option Key
target_of (Child key) = Some key
target_of (Link ty strong target) = target
target_of _ = None

-- the child that stands in a slot
abbrev pub child_of : Slot → Option Key
child_of (Child key) = Some key
child_of _ = None

-- the object that a slot holds, as a child or by a strong link
abbrev pub referent : Slot → Option Key
referent (Child key) = Some key
referent (Link ty true target) = target
referent _ = None

-- whether it is a strong link
abbrev pub is_strong : Slot → Bool
is_strong (Link ty true target) = true
is_strong _ = false

-- whether the object named is that of a birth
abbrev pub is_born : ℕ → Option Key → Bool
is_born birth None = false
is_born birth (Some key) = key.birth == birth

-- whether a slot holds the object of a birth, and whether it has it as a child
abbrev pub holds : ℕ → Slot → Bool
holds birth s = is_born birth (referent s)

abbrev pub names_child : ℕ → Slot → Bool
names_child birth s = is_born birth (child_of s)

-- the object that a weak link names, and whether it is that of a birth
abbrev pub weak_target : Slot → Option Key
weak_target (Link ty false target) = target
weak_target _ = None

abbrev pub names_weakly : ℕ → Slot → Bool
names_weakly birth s = is_born birth (weak_target s)

-- whether it is a link without a target
abbrev pub is_empty_link : Slot → Bool
is_empty_link (Link ty strong None) = true
is_empty_link _ = false

-- a link without its target, and a link to a target; anything else stays
abbrev pub unlinked : Slot → Slot
unlinked (Link ty strong target) = Link ty strong None
unlinked s = s

abbrev pub pointed : Key → Slot → Slot
pointed key (Link ty strong target) = Link ty strong (Some key)
pointed key s = s

-- a plain slot with a value; anything else stays
abbrev pub with_val : Val → Slot → Slot
with_val val (Plain old) = Plain val
with_val val s = s

-- a target that is not of a birth
abbrev pub unless_born : ℕ → Option Key → Option Key
unless_born birth None = None
unless_born birth (Some key) = if key.birth == birth then None else Some key

-- a weak link that names the object of a birth is emptied; anything else stays
abbrev pub forgotten_in : ℕ → Slot → Slot
forgotten_in birth (Link ty false target) = Link ty false (unless_born birth target)
forgotten_in birth s = s

-- what is left of a slot that is let go: nothing of a child, and a link without a target; a plain slot and an alias stay
abbrev pub left_of : Slot → Option Slot
left_of (Child key) = None
left_of (Link ty strong target) = Some (Link ty strong None)
left_of s = Some s

-- slots with their names, in the order of adding

abbrev pub Named : Type 0
Named = List ℕ × Slot

-- the names
abbrev pub names_of : List Named → List (List ℕ)
names_of slots = map (λ (s : Named). s.0) slots

-- whether there is a slot of a name
abbrev pub has_name : List ℕ → List Named → Bool
has_name name slots = list_any (λ s. bytes_eq name s.0) slots

-- what stands in the slot at a place
abbrev pub slot_in : List Named → ℕ → Option Slot
slot_in slots i = option_map (λ (s : Named). s.1) (slice_get slots i)

-- the object that the slot at a place names
abbrev pub named_in : List Named → ℕ → Option Key
named_in slots i = option_and_then target_of (slot_in slots i)

-- the slot at a place is changed; nothing is past the end
abbrev pub changed_at : (Slot → Slot) → ℕ → List Named → List Named
changed_at change i [] = []
changed_at change zero (s ∷ slots) = (s.0, change s.1) ∷ slots
changed_at change (suc i) (s ∷ slots) = s ∷ changed_at change i slots

-- the slot at a place is let go
abbrev pub let_go_at : ℕ → List Named → List Named
let_go_at i [] = []
let_go_at zero (s ∷ slots) = elim (left_of s.1) [ None ↦ slots | Some left ↦ (s.0, left) ∷ slots ]
let_go_at (suc i) (s ∷ slots) = s ∷ let_go_at i slots

-- each slot is changed
abbrev pub each_changed : (Slot → Slot) → List Named → List Named
each_changed change slots = map (λ (s : Named). (s.0, change s.1)) slots
