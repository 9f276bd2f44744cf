-- Reading and writing the properties of objects (docs/devel/qom.rst, "The QEMU Object Model": properties, child and link; QEMU's QAPI, `qom-get`, `qom-set`).
use Rattle.std.specs.Prelude.{ℕ, Bool, true, false, if◌then◌else◌, List, [], ◌++◌, codes, decimal, find, position, Option, Some, None, Result, Ok, Err, unwrap_or, option_map, option_and_then}
use Rattle.std.specs.Option.{option_map_or}
use Rattle.std.specs.Str.{bytes_eq}
use Rattle.qo_values.specs.Kinds.{type_name}
use Rattle.qo_values.specs.Properties.{admits}
use Rattle.qo_values.specs.declared.codes.Code.{Code}
use Rattle.qo_values.specs.declared.codes.Code.TheVariants.{E15, E16, E17, E18, E19, E31}
use Rattle.qo_values.specs.declared.kinds.TypeId.{TypeId}
use Rattle.qo_values.specs.declared.properties.Val.{Val}
use Rattle.qo_values.specs.declared.properties.Val.TheVariants as val
use Rattle.qo_model.specs.Board.{Board, Slot, kind_of, slot_at, slot_named, slots_at, plain, child, strong, weak, alias, referent}
use Rattle.qo_model.specs.Changes.{point, set}
use Rattle.qo_model.specs.Clocks.{derived_period}
use Rattle.qo_model.specs.Paths.{found, missing, several, canonical, resolve}
use Rattle.qo_model.specs.Release.{after, drop_slot, finalize}
use Rattle.qo_model.specs.Types.{slots_of}
use Rattle.qo_model.specs.RowNames.{property_name}
use Rattle.qo_model.specs.declared.properties.Property.{Property}
use Rattle.qo_model.specs.declared.properties.PropertyRole.{PropertyRole}
use Rattle.qo_model.specs.declared.properties.PropertyRole.TheVariants as row
use Rattle.qo_model.specs.declared.properties.Access.{Access}
use Rattle.qo_model.specs.declared.properties.Access.TheVariants.{Both}

-- an object, as the text of a property that names it: its canonical path, or `detached:` and its birth where it has none
abbrev pub path_text : Board → ℕ → List ℕ
path_text b n = unwrap_or (canonical b n) (codes "detached:" ++ decimal n)

-- what is read of a link: the text of its target, or the empty text
abbrev pub target_text : Board → Option ℕ → List ℕ
target_text b target = option_map_or (path_text b) target []

-- what is read of a value of n, of this name: the period of a clock that goes by another is that by its source
abbrev pub plain_value : Board → ℕ → List ℕ → Val → Val
plain_value b n name v = if bytes_eq name (codes "period") then option_map_or val.Uint (derived_period b n) v else v

-- what is read of a slot of n, of this name, that is no alias
abbrev pub own_value : Board → ℕ → List ℕ → Slot → Val
own_value b n name (plain v) = plain_value b n name v
own_value b n name (child m) = val.Text (path_text b m)
own_value b n name (strong t target) = val.Text (target_text b target)
own_value b n name (weak t target) = val.Text (target_text b target)
own_value b n name (alias m property) = val.Nothing

-- what is read of a slot of n, of this name; an alias reads as the property that it passes on to, which is no alias
abbrev pub slot_value : Board → ℕ → List ℕ → Slot → Option Val
slot_value b n name (alias m property) = option_map (own_value b m property) (slot_named b m property)
slot_value b n name s = Some (own_value b n name s)

-- the value of the property of a name of an object; none where it has no such property
abbrev pub value_of : Board → ℕ → List ℕ → Option Val
value_of b n name = option_and_then (slot_value b n name) (slot_named b n name)

-- the row of the property of a name, of objects of a type
abbrev pub property_named : TypeId → List ℕ → Option Property
property_named t name = find (λ (p : Property). bytes_eq (property_name p.name) name) (slots_of t)

-- whether both `qom-set` and the command that adds an object write a property with this access
abbrev pub may_set : Access → Bool
may_set Both = true
may_set access = false

-- what a text names as the target of a link to objects of a type: no target where it is empty; refused where it names several, one of another type, or none
abbrev pub link_target : Board → TypeId → List ℕ → Result (Option ℕ) Code
link_target b t [] = Ok None
link_target b t path =
    elim (resolve b path (type_name t)) [
      | found m ↦ Ok (Some m)
      | several ↦ Err E16
      | missing ↦ elim (resolve b path (codes "object")) [ missing ↦ Err E15 | _ ↦ Err E31 ]
    ]

-- the link of n at a place points at a target, if there is one
abbrev pub pointed_at : Option ℕ → ℕ → ℕ → Board → Board
pointed_at None n i b = b
pointed_at (Some m) n i b = point n i m b

-- a link is written: its new target is set, and then what it held is finalized where nothing refers to it any more
abbrev pub relinked : Board → ℕ → ℕ → Option ℕ → Board
relinked b n i target =
    elim (slot_at b n i) [ None ↦ b | Some s ↦ after finalize (pointed_at target n i (drop_slot b n i)) (referent s) ]

-- a target to a link of n at a place, if it was not refused
abbrev pub linked : Board → ℕ → ℕ → Result (Option ℕ) Code → Result Board Code
linked b n i (Ok target) = Ok (relinked b n i target)
linked b n i (Err code) = Err code

-- a value to a link to objects of a type, of n at a place: a text that names its target
abbrev pub link_written : Board → ℕ → ℕ → TypeId → Val → Result Board Code
link_written b n i t (val.Text path) = linked b n i (link_target b t path)
link_written b n i t v = Err E19

-- a value to the slot of n at a place, which holds this, by the row of its property; a slot that is not what its row says is not written
abbrev pub written : Board → ℕ → ℕ → PropertyRole → Option Slot → Val → Result Board Code
written b n i (row.Plain type first) (Some (plain old)) v = if admits type v then Ok (set n i v b) else Err E19
written b n i (row.Link t holds) (Some (strong to target)) v = link_written b n i to v
written b n i (row.Link t holds) (Some (weak to target)) v = link_written b n i to v
written b n i kind s v = Err E18

-- a value to the slot of n at a place, whose property has this row; a slot that no row of the type has is not written
abbrev pub written_by : Board → ℕ → ℕ → Option Property → Val → Result Board Code
written_by b n i None v = Err E18
written_by b n i (Some row) v = if may_set row.access then written b n i row.role (slot_at b n i) v else Err E18

-- a value to the property of a name of n, where `qom-set` and the command that adds an object both write it
abbrev pub write : Board → ℕ → List ℕ → Val → Result Board Code
write b n name v =
    elim (position (λ (s : List ℕ × Slot). bytes_eq s.0 name) (slots_at b n)) [
      | None ↦ Err E17
      | Some i ↦ written_by b n i (option_and_then (λ t. property_named t name) (kind_of b n)) v
    ]

-- the object at a path, or the code where there is none, or several
abbrev pub object_at : Board → List ℕ → Result ℕ Code
object_at b path = elim (resolve b path (codes "object")) [ found n ↦ Ok n | missing ↦ Err E15 | several ↦ Err E16 ]
