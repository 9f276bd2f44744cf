-- For proofs alone. What the calls that change the board answer, and the severing of an object's links.
use Rattle.std.specs.Prelude.{◌≡◌, ℕ, Bool, false, leb, not, if◌then◌else◌, List, length, codes, Option, Some, None, Result, Ok, Err}
use Rattle.std.specs.Option.{option_map_or}
use Rattle.qo_values.specs.declared.births.TheConstants.{OBJECTS_BIRTH}
use Rattle.qo_values.specs.declared.codes.Code.{Code}
use Rattle.qo_values.specs.declared.limits.TheConstants.{LIVE_OBJECTS_MAX}
use Rattle.qo_object.specs.Slots.{Named, is_strong, slot_in}
use Rattle.qo_model.specs.Board.{Board, is_live, slot_at, slots_at, strong}
use Rattle.qo_values.specs.declared.codes.Code.TheVariants.{E15, E20, E21, E22, E24, E43}
use Rattle.qo_model.specs.Objects.{Changed, has_slot, severed_from}
use Rattle.qo_model.specs.Types.{TypeInfo, is_a, type_named}
use Rattle.qo_model.specs.Release.{let_go, pin, unpin}
use Rattle.qo_heap.specs.Board.{Shows}
use Rattle.qo_heap.specs.Objects.{Objects}

-- the code that a call was refused by
abbrev pub refusal_in : {T : Type 0} → Result T Code → Option Code
refusal_in (Ok done) = None
refusal_in (Err code) = Some code

-- a call answers a change: it is refused by the same code, or neither is refused, and the heap shows the change's board
pub record IsAnswered {T : Type 0} (change : Changed) (result : Result T Code) (w : Objects) : Type 0 where
  pub refusal : change.refusal ≡ refusal_in result
  pub board : Shows change.board w

-- whether a strong link stands at a place
abbrev pub is_strong_in : List Named → ℕ → Bool
is_strong_in slots i = option_map_or is_strong (slot_in slots i) false

-- the slot of n at a place is let go where it is a strong link
abbrev pub severed_at : ℕ → ℕ → Board → Board
severed_at n i b = elim (slot_at b n i) [ Some (strong t target) ↦ let_go b n i | _ ↦ b ]

-- the strong links of n are let go while it is held
abbrev pub severed : Board → ℕ → Board
severed b n = unpin (severed_from (length (slots_at b n)) 0 n (pin b n)) n

-- why objects of a type's name are not made by users: there is none, it is abstract, or it is not for them
abbrev pub info_refusal : TypeInfo → Option Code
info_refusal row = if row.is_abstract then Some E21 else if not (is_a row.id (codes "user-creatable")) then Some E22 else None

abbrev pub type_refusal : List ℕ → Option Code
type_refusal driver = option_map_or info_refusal (type_named driver) (Some E20)

-- why no object is made under an id: `/objects` is not there, it has a slot of that name, or there are as many objects as there may be
abbrev pub place_refusal : Board → List ℕ → Option Code
place_refusal b id = if not (is_live b OBJECTS_BIRTH) then Some E15 else if has_slot b OBJECTS_BIRTH id then Some E24
    else if leb LIVE_OBJECTS_MAX (length b.records) then Some E43 else None
