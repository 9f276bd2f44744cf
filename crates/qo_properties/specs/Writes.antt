-- For proofs alone. What is written to the board.
use Rattle.std.specs.Prelude.{◌≡◌, ℕ, Bool, true, false, if◌then◌else◌, List, codes, Option, Some, None, is_some, Result, Ok, Err, ⊤}
use Rattle.std.specs.Option.{option_and_then, option_map_or}
use Rattle.qo_values.specs.Properties.{admits}
use Rattle.qo_values.specs.declared.codes.Code.{Code}
use Rattle.qo_values.specs.declared.codes.Code.TheVariants.{E15, E18, E19, E31}
use Rattle.qo_values.specs.declared.kinds.TypeId.{TypeId}
use Rattle.qo_values.specs.declared.properties.PropType.{PropType}
use Rattle.qo_values.specs.declared.properties.Val.{Val}
use Rattle.qo_slots.specs.declared.keys.Key.{Key}
use Rattle.qo_model.specs.Board as board
use Rattle.qo_model.specs.Board.{Board}
use Rattle.qo_model.specs.Changes.{set}
use Rattle.qo_model.specs.ClockProperties.{set_row}
use Rattle.qo_model.specs.Paths.{missing, resolve}
use Rattle.qo_model.specs.Properties.{link_written, object_at}
use Rattle.qo_object.specs.declared.slots.Slot.{Slot}
use Rattle.qo_object.specs.declared.slots.Slot.TheVariants.{Plain, Link}
use Rattle.qo_object.specs.BoardObject.{birth_of}
use Rattle.qo_object.specs.Slots.{slot_in}
use Rattle.qo_heap.specs.Board.{Shows}
use Rattle.qo_heap.specs.Objects.{Objects, slots_of}
use Rattle.qo_properties.specs.declared.refusals.Refusal.{Refusal}
use Rattle.qo_properties.specs.declared.refusals.Refusal.TheVariants.{Refused, Memory}

-- a heap after a write that a definition gives: it shows the board that is given; or the write was refused as it is given; or there was not enough memory
abbrev pub Writes : {T : Type 0} → Objects → Result T Refusal → Result Board Code → Type 0
Writes v (Ok done) given = (b : Board) × (given ≡ Ok b) × Shows b v
Writes v (Err (Refused code)) given = given ≡ Err code
Writes v (Err Memory) given = ⊤

-- whether a name of n is one of a number of a clock, and a name of the object at a path
abbrev pub is_of_clock : Board → ℕ → List ℕ → Bool
is_of_clock b n name = is_some (set_row b n name)

abbrev pub is_of_clock_at : Board → List ℕ → List ℕ → Bool
is_of_clock_at b path name = elim (object_at b path) [ Ok n ↦ is_of_clock b n name | Err code ↦ false ]

-- the target of a link that is answered, or the code
abbrev pub target_told : Result (Option Key) Code → Result (Option ℕ) Code
target_told (Ok target) = Ok (birth_of target)
target_told (Err code) = Err code

-- the type to whose objects a slot is a link, if it is one; and that of an object at a place
abbrev pub link_type : Slot → Option TypeId
link_type (Link ty strong target) = Some ty
link_type s = None

abbrev pub link_type_at : Objects → ℕ → ℕ → Option TypeId
link_type_at v n i = option_and_then link_type (slot_in (slots_of v n) i)

-- whether the slot of an object at a place is a link, and whether it is plain
abbrev pub is_link_at : Objects → ℕ → ℕ → Bool
is_link_at v n i = is_some (link_type_at v n i)

abbrev pub is_plain : Slot → Bool
is_plain (Plain val) = true
is_plain s = false

abbrev pub is_plain_at : Objects → ℕ → ℕ → Bool
is_plain_at v n i = option_map_or is_plain (slot_in (slots_of v n) i) false

-- why a text that leads to no object of a link's type is refused
abbrev pub no_target : Board → List ℕ → Code
no_target b path = elim (resolve b path (codes "object")) [ missing ↦ E15 | _ ↦ E31 ]

-- a value to the slot of n at a place, which holds this: where its row is one of values, and where it is one of links
abbrev pub to_plain : Board → ℕ → ℕ → PropType → Option board.Slot → Val → Result Board Code
to_plain b n i type (Some (board.plain old)) v = if admits type v then Ok (set n i v b) else Err E19
to_plain b n i type s v = Err E18

abbrev pub to_link : Board → ℕ → ℕ → Option board.Slot → Val → Result Board Code
to_link b n i (Some (board.strong t target)) v = link_written b n i t v
to_link b n i (Some (board.weak t target)) v = link_written b n i t v
to_link b n i s v = Err E18
