-- For proofs alone. An object by itself.
use Rattle.std.specs.Prelude.{◌≡◌, ℕ, ◌+◌, ◌-◌, ◌≤◌, ◌^◌, Bool, false, List, [], ◌∷◌, ◌++◌, length, remove, count_by, Option, Some, None, is_some}
use Rattle.std.specs.List.{list_any, IsDistinct}
use Rattle.std.specs.Option.{option_map_or}
use Rattle.std.specs.Str.{bytes_eq}
use Rattle.qo_values.specs.declared.kinds.TypeId.{TypeId}
use Rattle.qo_values.specs.declared.properties.Val.{Val}
use Rattle.qo_kinds.specs.Bodies.{IsBare, acted, body_of}
use Rattle.qo_values.specs.declared.kinds.Act.{Act}
use Rattle.qo_kinds.specs.declared.bodies.Body.{Body}
use Rattle.qo_slots.specs.declared.keys.Key.{Key}
use Rattle.qo_object.specs.declared.room.Side.{Side}
use Rattle.qo_object.specs.declared.room.Work.{Work}
use Rattle.qo_object.specs.declared.slots.Slot.{Slot}
use Rattle.qo_object.specs.Room.{no_side, no_work}
use Rattle.qo_object.specs.Slots.{names_of, named_in, slot_in, changed_at, let_go_at, each_changed, referent, holds, names_child, is_empty_link, pointed, with_val, forgotten_in}

-- its type, its slots by name in the order of adding, how often it is held from outside the tree, its body, and of a device
-- its id and the path that is kept for its end; and what others keep of it beside the tree
pub record Content : Type 0 where
  pub kind : TypeId
  pub slots : List (List ℕ × Slot)
  pub pins : ℕ
  pub body : Body
  pub device_id : Option (List ℕ)
  pub kept_path : Option (List ℕ)
  pub side : Side
  pub work : Work

-- what is so of every object: the names of its slots differ, and there are not too many slots and pins to count
pub record IsObject (c : Content) : Type 0 where
  pub named : IsDistinct bytes_eq (names_of c.slots)
  pub few_slots : length c.slots ≤ 2 ^ 32
  pub few_pins : c.pins ≤ 2 ^ 32

-- an object as it was made, but for its slots and its pins
abbrev pub as_made : TypeId → List (List ℕ × Slot) → ℕ → Content
as_made kind slots pins =
    record {
      kind = kind;
      slots = slots;
      pins = pins;
      body = body_of kind;
      device_id = None;
      kept_path = None;
      side = no_side;
      work = no_work;
    }

-- a new object: no slots, held once from outside
abbrev pub fresh : TypeId → Content
fresh kind = as_made kind [] 1

-- it keeps no claim: neither its body does, nor has it an id
abbrev pub HasNoClaim : Content → Type 0
HasNoClaim c = IsBare c.body × (c.device_id ≡ None)

-- a slot more, after the others
abbrev pub with_slot : List ℕ → Slot → Content → Content
with_slot name slot c = record c { slots = c.slots ++ (name, slot) ∷ [] }

-- an object with these slots in the place of its own
abbrev pub with_all_slots : List (List ℕ × Slot) → Content → Content
with_all_slots slots c = record c { slots = slots }

-- the object that the slot at a place names; none past the end
abbrev pub named_at : Content → ℕ → Option Key
named_at c i = named_in c.slots i

-- the slot at a place is let go: of a child nothing is left, a link is left without a target, a plain slot and an alias stay
abbrev pub dropped_at : ℕ → Content → Content
dropped_at i c = record c { slots = let_go_at i c.slots }

-- whether a link without a target stands at a place
abbrev pub empty_link_at : Content → ℕ → Bool
empty_link_at c i = option_map_or is_empty_link (slot_in c.slots i) false

-- the link at a place points at a target; the plain slot at a place has a value; the slot at a place is removed
abbrev pub pointed_at : Key → ℕ → Content → Content
pointed_at target i c = record c { slots = changed_at (pointed target) i c.slots }

abbrev pub set_at : Val → ℕ → Content → Content
set_at val i c = record c { slots = changed_at (with_val val) i c.slots }

abbrev pub cut_at : ℕ → Content → Content
cut_at i c = record c { slots = remove c.slots i }

-- held from outside once more, and once less
abbrev pub with_pin : Content → Content
with_pin c = record c { pins = c.pins + 1 }

abbrev pub without_pin : Content → Content
without_pin c = record c { pins = c.pins - 1 }

-- the weak links that name the object of a birth are emptied
abbrev pub forgotten : ℕ → Content → Content
forgotten birth c = record c { slots = each_changed (forgotten_in birth) c.slots }

-- how many slots hold the object of a birth, whether one does, whether one has it as a child, and how many slots hold any
abbrev pub holding : ℕ → Content → ℕ
holding birth c = count_by (λ (s : List ℕ × Slot). holds birth s.1) c.slots

abbrev pub is_holder : ℕ → Content → Bool
is_holder birth c = list_any (λ (s : List ℕ × Slot). holds birth s.1) c.slots

abbrev pub is_parent : ℕ → Content → Bool
is_parent birth c = list_any (λ (s : List ℕ × Slot). names_child birth s.1) c.slots

abbrev pub reference_count : Content → ℕ
reference_count c = count_by (λ (s : List ℕ × Slot). is_some (referent s.1)) c.slots

-- its body acts
abbrev pub acted_at : Act → ℕ → ℕ → Content → Content
acted_at act time period c = record c { body = acted act time period c.body }

-- it has an id, and a path is kept for its end
abbrev pub with_id : List ℕ → Content → Content
with_id id c = record c { device_id = Some id }

abbrev pub with_path : List ℕ → Content → Content
with_path path c = record c { kept_path = Some path }

-- this is kept of it beside the tree, and it has this place in the work of a release
abbrev pub with_side : Side → Content → Content
with_side side c = record c { side = side }

abbrev pub with_work : Work → Content → Content
with_work work c = record c { work = work }
