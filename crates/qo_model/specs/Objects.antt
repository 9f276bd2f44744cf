-- Adding and removing objects by command (QEMU's QAPI, `object-add` and `object-del`; the order of refusals is the profile's), and cutting the links of a
-- detached one.
use Rattle.std.specs.Prelude.{ℕ, zero, suc, ◌+◌, ◌==◌, ◌&&◌, Bool, true, false, not, leb, if◌then◌else◌, List, [], ◌∷◌, ◌++◌, map, filter, length, codes, find, Option, Some, None, is_none, Result, Ok, Err}
use Rattle.std.specs.List.{list_any}
use Rattle.std.specs.Option.{option_map_or}
use Rattle.std.specs.Str.{bytes_eq}
use Rattle.qo_values.specs.Ids.{is_id}
use Rattle.qo_values.specs.Properties.{admits}
use Rattle.qo_values.specs.Registers.{fresh_registers}
use Rattle.qo_values.specs.declared.births.TheConstants.{OBJECTS_BIRTH, ROOT_BIRTH}
use Rattle.qo_values.specs.declared.codes.Code.{Code}
use Rattle.qo_values.specs.declared.codes.Code.TheVariants.{E15, E17, E18, E19, E20, E21, E22, E23, E24, E33, E43, E50}
use Rattle.qo_values.specs.declared.kinds.Act.TheVariants.{Init}
use Rattle.qo_values.specs.declared.kinds.TypeId.{TypeId}
use Rattle.qo_values.specs.declared.limits.TheConstants.{LIVE_OBJECTS_MAX}
use Rattle.qo_values.specs.declared.properties.Val.{Val}
use Rattle.qo_values.specs.declared.properties.Val.TheVariants as val
use Rattle.qo_model.specs.declared.notes.Deed.TheVariants.{Did}
use Rattle.qo_model.specs.declared.notes.Note.{Note}
use Rattle.qo_model.specs.Board.{Board, Record, Slot, plain, child, strong, weak, is_live, slot_at, slots_at}
use Rattle.qo_model.specs.Changes.{with_added}
use Rattle.qo_model.specs.Opening.{fresh_slots}
use Rattle.qo_model.specs.Paths.{attached, place_of}
use Rattle.qo_model.specs.Properties.{link_target, property_named}
use Rattle.qo_model.specs.Release.{edited, final_notes, let_go, pin, unpin}
use Rattle.qo_model.specs.Types.{TypeInfo, inits, is_a, type_named}
use Rattle.qo_model.specs.declared.properties.Property.{Property}
use Rattle.qo_model.specs.declared.properties.PropertyRole.{PropertyRole}
use Rattle.qo_model.specs.declared.properties.PropertyRole.TheVariants as row
use Rattle.qo_model.specs.declared.properties.Access.{Access}
use Rattle.qo_model.specs.declared.properties.Access.TheVariants.{Add, Both}

-- a property that a command gives: its name and its value
abbrev pub Given : Type 0
Given = List ℕ × Val

-- whether the adding command writes a property with this access
abbrev pub may_add : Access → Bool
may_add Add = true
may_add Both = true
may_add access = false

-- the code of a target that was refused
abbrev pub code_of : Result (Option ℕ) Code → Option Code
code_of (Ok target) = None
code_of (Err code) = Some code

-- why a value is refused for a property with a row, if it is
abbrev pub misfit : Board → PropertyRole → Val → Option Code
misfit b (row.Plain type first) v = if admits type v then None else Some E19
misfit b (row.Link t holds) (val.Text path) = code_of (link_target b t path)
misfit b kind v = Some E19

abbrev pub refusal_by : Board → Option Property → Val → Option Code
refusal_by b None v = Some E17
refusal_by b (Some row) v = if may_add row.access then misfit b row.role v else Some E18

-- why the properties given to a new object of a type are refused, if they are: the first that is, in the order given
abbrev pub refusal_of : Board → TypeId → List Given → Option Code
refusal_of b t [] = None
refusal_of b t (p ∷ props) = elim (refusal_by b (property_named t p.0) p.1) [ Some code ↦ Some code | None ↦ refusal_of b t props ]

-- what a slot of a new object begins as, with the value given to it
abbrev pub target_given : Result (Option ℕ) Code → Option ℕ
target_given (Ok target) = target
target_given (Err code) = None

abbrev pub given_to : Board → Slot → Val → Slot
given_to b (plain old) v = plain v
given_to b (strong t target) (val.Text path) = strong t (target_given (link_target b t path))
given_to b (weak t target) (val.Text path) = weak t (target_given (link_target b t path))
given_to b s v = s

abbrev pub slot_given : Board → List Given → List ℕ × Slot → List ℕ × Slot
slot_given b props s =
    (s.0, elim (find (λ (p : Given). bytes_eq p.0 s.0) props) [ None ↦ s.1 | Some p ↦ given_to b s.1 p.1 ])

-- the slots of a new object of a type, with the values given
abbrev pub given_slots : Board → TypeId → List Given → List (List ℕ × Slot)
given_slots b t props = map (slot_given b props) (fresh_slots t)

-- the notes of an object as it is made, base first
abbrev pub init_notes : ℕ → TypeId → List Note
init_notes n t = map (λ (k : TypeId). record { birth = n; deed = Did (Init k) }) (inits t)

-- whether an object has a slot of a name
abbrev pub has_slot : Board → ℕ → List ℕ → Bool
has_slot b n name = list_any (λ (s : List ℕ × Slot). bytes_eq s.0 name) (slots_at b n)

-- why an object of a named type, under an id at `/objects`, is refused before an attempt is made, if it is; E15 where `/objects` is not there, which it is on
-- every sound board
abbrev pub barred : Board → TypeInfo → List ℕ → Option Code
barred b row id =
    if row.is_abstract then Some E21
    else if not (is_a row.id (codes "user-creatable")) then Some E22
    else if not (is_id id) then Some E23
    else if not (is_live b OBJECTS_BIRTH) then Some E15
    else if has_slot b OBJECTS_BIRTH id then Some E24
    else if leb LIVE_OBJECTS_MAX (length b.records) then Some E43
    else None

-- why an object of a type's name, under an id, is refused before an attempt is made, if it is
abbrev pub barred_by : Board → List ℕ → List ℕ → Option Code
barred_by b driver id = option_map_or (λ (row : TypeInfo). barred b row id) (type_named driver) (Some E20)

-- the board with an object more, under an id at `/objects`
abbrev pub with_object : Board → TypeId → List ℕ → List Given → Board
with_object b t id props =
    record b {
      records =
          map (edited OBJECTS_BIRTH (with_added id (child (b.born + 1)))) b.records
          ++ record { birth = b.born + 1; kind = t; slots = given_slots b t props; registers = fresh_registers t; device_id = None; kept_path = None } ∷ [];
      born = b.born + 1;
      notes = b.notes ++ init_notes (b.born + 1) t;
    }

-- the board after an attempt that was given up: the object was made and ended
abbrev pub with_attempt : Board → TypeId → Board
with_attempt b t =
    record b {
      born = b.born + 1;
      notes =
          b.notes ++ init_notes (b.born + 1) t
          ++ final_notes (record { birth = b.born + 1; kind = t; slots = []; registers = fresh_registers t; device_id = None; kept_path = None });
    }

-- the board after an attempt of `object-add` that was given up; the board itself where the type, the id or the number of objects bars the attempt
abbrev pub attempted_as : Board → List ℕ → List ℕ → Board
attempted_as b driver id =
    elim (barred_by b driver id) [ Some code ↦ b | None ↦ option_map_or (λ (row : TypeInfo). with_attempt b row.id) (type_named driver) b ]

-- what a change comes to: the code that refuses it, if it is refused, and the board after it
pub record Changed : Type 0 where
  pub refusal : Option Code
  pub board : Board

-- `object-add` of a type's name, an id and properties
abbrev pub added_as : Board → TypeId → List ℕ → List Given → Option Code → Changed
added_as b t id props None = record { refusal = None; board = with_object b t id props }
added_as b t id props (Some code) = record { refusal = Some code; board = with_attempt b t }

abbrev pub added_by : Board → TypeInfo → List ℕ → List Given → Option Code → Changed
added_by b row id props (Some code) = record { refusal = Some code; board = b }
added_by b row id props None = added_as b row.id id props (refusal_of b row.id props)

abbrev pub object_add : Board → List ℕ → List ℕ → List Given → Changed
object_add b driver id props =
    elim (type_named driver) [ None ↦ record { refusal = Some E20; board = b } | Some row ↦ added_by b row id props (barred b row id) ]

-- the place of the child of `/objects` of a name
abbrev pub is_object_named : List ℕ → List ℕ × Slot → Bool
is_object_named id (name, child m) = bytes_eq name id
is_object_named id s = false

-- the first place from one on at which a slot passes
abbrev pub index_from : (List ℕ × Slot → Bool) → ℕ → List (List ℕ × Slot) → Option ℕ
index_from p i [] = None
index_from p i (s ∷ slots) = if p s then Some i else index_from p (suc i) slots

-- `object-del`: the child slot is let go
abbrev pub object_del : Board → List ℕ → Changed
object_del b id =
    elim (index_from (is_object_named id) 0 (slots_at b OBJECTS_BIRTH)) [
      | None ↦ record { refusal = Some E15; board = b }
      | Some i ↦ record { refusal = None; board = let_go b OBJECTS_BIRTH i }
    ]

-- the strong links of n are let go, in order, at so many places from one on
abbrev pub severed_from : ℕ → ℕ → ℕ → Board → Board
severed_from zero i n b = b
severed_from (suc places) i n b =
    elim (slot_at b n i) [ Some (strong t target) ↦ severed_from places (suc i) n (let_go b n i) | _ ↦ severed_from places (suc i) n b ]

-- `x-sever` of the object of a birth, which is held meanwhile
abbrev pub sever : Board → ℕ → Changed
sever b n =
    if not (is_live b n) then record { refusal = Some E33; board = b }
    else if attached b n then record { refusal = Some E50; board = b }
    else record { refusal = None; board = unpin (severed_from (length (slots_at b n)) 0 n (pin b n)) n }

-- the objects without parent, but `/`, in the order of births
abbrev pub detached : Board → List Record
detached b = filter (λ (r : Record). not (r.birth == ROOT_BIRTH) && is_none (place_of b r.birth)) b.records
