-- Plugging: adding a device in stages, and what an attempt leaves that was given up (include/hw/qdev-core.h, "Realization"; include/hw/hotplug.h; the stages
-- and the order of refusals are the profile's).
use Rattle.std.specs.Prelude.{ℕ, zero, suc, ◌+◌, Bool, true, false, not, ◌&&◌, ◌||◌, ◌==◌, nat_le, nat_lt, if◌then◌else◌, List, [], ◌∷◌, ◌++◌, map, filter, filter_map, drop, take, length, find, codes, Option, Some, None, option_map, option_and_then, unwrap_or, Result, Ok, Err}
use Rattle.std.specs.List.{flat_map, list_any}
use Rattle.std.specs.Option.{option_map_or, option_or}
use Rattle.std.specs.Str.{bytes_eq}
use Rattle.qo_values.specs.Ids.{is_id}
use Rattle.qo_values.specs.Kinds.{type_name}
use Rattle.qo_values.specs.Placing.{is_in_window, least, overlaps_any, free_address, range_at}
use Rattle.qo_values.specs.Registers.{Registers, dimm}
use Rattle.qo_values.specs.declared.births.TheConstants.{ANONYMOUS_BIRTH, MEMORY_BUS_BIRTH, PERIPHERAL_BIRTH, ROOT_BUS_BIRTH, SYSTEM_CLOCK_BIRTH}
use Rattle.qo_values.specs.declared.limits.TheConstants.{BUS_DEPTH_MAX, BUS_SLOTS, DIMM_ALIGN, LIVE_OBJECTS_MAX, NOTICES_MAX}
use Rattle.qo_values.specs.declared.codes.Code.{Code}
use Rattle.qo_values.specs.declared.codes.Code.TheVariants.{E15, E20, E21, E22, E23, E24, E25, E26, E27, E28, E29, E30, E36, E37, E38, E39, E40, E41, E42, E43, E44}
use Rattle.qo_values.specs.declared.kinds.Act.{Act}
use Rattle.qo_values.specs.declared.kinds.Act.TheVariants.{Realize, Unrealize, Enter, Hold, Exit}
use Rattle.qo_values.specs.declared.kinds.TypeId.{TypeId}
use Rattle.qo_values.specs.declared.kinds.TypeId.TheVariants.{SlotBridge, SlotUart, MemDimm, MemoryBackend, Device}
use Rattle.qo_values.specs.declared.properties.Val.{Val}
use Rattle.qo_values.specs.declared.properties.Val.TheVariants as val
use Rattle.qo_values.specs.declared.ranges.Range.{Range}
use Rattle.qo_model.specs.declared.notes.Deed.TheVariants.{Did}
use Rattle.qo_model.specs.declared.notes.Note.{Note}
use Rattle.qo_model.specs.Board.{Board, Record, Ring, Slot, plain, child, strong, weak, alias, record_of, slot_named, slots_at}
use Rattle.qo_model.specs.Changes.{add, fresh, with_changed}
use Rattle.qo_model.specs.Clocks.{acted}
use Rattle.qo_model.specs.Devices.{anonymous_name, bridge_of, child_named, clock_of, depth_of, device_named, is_going, is_realized, kid_name, number_at, number_in, strong_at, text_at, text_in}
use Rattle.qo_model.specs.FinalNotes.{ending}
use Rattle.qo_model.specs.Objects.{Given, has_slot, init_notes, index_from, refusal_of, slot_given}
use Rattle.qo_model.specs.Opening.{first_value, fresh_record}
use Rattle.qo_model.specs.Paths.{attached, canonical, found, is_of, only_of, resolve}
use Rattle.qo_model.specs.Properties.{link_target}
use Rattle.qo_model.specs.Release.{edit}
use Rattle.qo_model.specs.Reset.{count, plugged}
use Rattle.qo_model.specs.Types.{is_a, type_named, slots_of}
use Rattle.qo_model.specs.RowNames.{property_name}
use Rattle.qo_model.specs.declared.properties.Property.{Property}
use Rattle.qo_model.specs.declared.properties.PropertyRole.{PropertyRole}
use Rattle.qo_model.specs.declared.properties.PropertyRole.TheVariants as row
use Rattle.qo_model.specs.Unplug.{is_named, set_named}

-- what is asked for: a type's name, an id, the path of a bus, and properties in byte order of their names
pub record Wanted : Type 0 where
  pub driver : List ℕ
  pub id : Option (List ℕ)
  pub bus : Option (List ℕ)
  pub props : List Given

-- the further objects of a device, in slot order, by name and type; and how many objects a device is
abbrev pub further_in : Property → Option (List ℕ × TypeId)
further_in p = elim p.role [ row.Child t ↦ Some (property_name p.name, t) | _ ↦ None ]

abbrev pub further_of : TypeId → List (List ℕ × TypeId)
further_of t = filter_map further_in (slots_of t)

abbrev pub objects_in : TypeId → ℕ
objects_in t = suc (length (further_of t))

-- the types of the objects of a device in the order of their births, and each with its birth, from one on
abbrev pub types_in : TypeId → List TypeId
types_in t = t ∷ map (λ (f : List ℕ × TypeId). f.1) (further_of t)

abbrev pub born_from : ℕ → List TypeId → List (ℕ × TypeId)
born_from n [] = []
born_from n (t ∷ ts) = (n, t) ∷ born_from (suc n) ts

-- whether an object of a device is a bus
abbrev pub is_bus : ℕ × TypeId → Bool
is_bus o = is_a o.1 (codes "bus")

abbrev pub bus_births : ℕ → TypeId → List ℕ
bus_births n t = map (λ (o : ℕ × TypeId). o.0) (filter is_bus (born_from n (types_in t)))

-- stage 1: the type
abbrev pub type_barred : List ℕ → Option Code
type_barred driver =
    elim (type_named driver) [
      | None ↦ Some E20
      | Some row ↦ if row.is_abstract then Some E21 else if not (is_a row.id (codes "device")) then Some E22 else None
    ]

-- stage 2: the id, and the place in the container; E15 where the container is not there, and E24 where the next name of a device without id is taken, which is
-- on no sound board
abbrev pub parent_for : Option (List ℕ) → ℕ
parent_for None = ANONYMOUS_BIRTH
parent_for (Some id) = PERIPHERAL_BIRTH

abbrev pub name_for : Board → Option (List ℕ) → List ℕ
name_for b None = anonymous_name b.anonymous
name_for b (Some id) = id

abbrev pub container_barred : Board → ℕ → List ℕ → Option Code
container_barred b parent name = if not (is_of b (codes "container") parent) then Some E15 else if has_slot b parent name then Some E24 else None

abbrev pub id_refused : Board → Option (List ℕ) → Option Code
id_refused b None = None
id_refused b (Some id) = if not (is_id id) then Some E23 else if device_named b id then Some E24 else None

abbrev pub id_barred : Board → Option (List ℕ) → Option Code
id_barred b id = option_or (id_refused b id) (container_barred b (parent_for id) (name_for b id))

-- stage 3: the bus
abbrev pub bus_type : TypeId → List ℕ
bus_type t = if is_a t (codes "slot-device") then codes "slot-bus" else codes "mem-bus"

abbrev pub bus_for : Board → TypeId → Option (List ℕ) → Option ℕ
bus_for b t None = Some (if is_a t (codes "slot-device") then ROOT_BUS_BIRTH else MEMORY_BUS_BIRTH)
bus_for b t (Some path) = elim (resolve b path (codes "bus")) [ found m ↦ Some m | _ ↦ None ]

abbrev pub bus_barred : Board → TypeId → Option ℕ → Option Code
bus_barred b t None = Some E25
bus_barred b t (Some m) =
    if not (is_of b (bus_type t) m) then Some E26 else if not (attached b m) || is_going b m then Some E27 else None

-- stage 4: the objects
abbrev pub room_barred : Board → TypeId → Option Code
room_barred b t = if nat_le (length b.records + objects_in t) LIVE_OBJECTS_MAX then None else Some E43

-- what is given for a property
abbrev pub given_for : List Given → List ℕ → Option Val
given_for props name = option_map (λ (p : Given). p.1) (find (λ (p : Given). bytes_eq p.0 name) props)

abbrev pub number_for : List Given → List ℕ → Option ℕ
number_for props name = option_and_then number_in (given_for props name)

abbrev pub text_for : List Given → List ℕ → List ℕ
text_for props name = unwrap_or (option_and_then text_in (given_for props name)) []

-- stage 5: the slot, the range of a DIMM, the depth of a bridge
abbrev pub is_free : Board → ℕ → ℕ → Bool
is_free b bus slot = not (has_slot b bus (kid_name slot))

abbrev pub bus_slot_for : Board → ℕ → Option ℕ → Result ℕ Code
bus_slot_for b bus (Some slot) = if nat_lt slot BUS_SLOTS then (if is_free b bus slot then Ok slot else Err E29) else Err E28
bus_slot_for b bus None = elim (least (is_free b bus) 0 BUS_SLOTS) [ None ↦ Err E30 | Some slot ↦ Ok slot ]

abbrev pub target_for : Board → TypeId → List Given → List ℕ → Option ℕ
target_for b t props name = elim (link_target b t (text_for props name)) [ Ok target ↦ target | Err code ↦ None ]

abbrev pub is_dimm : Record → Bool
is_dimm r = is_a r.kind (codes "mem-dimm")

-- the DIMMs that stand on their ranges
abbrev pub dimms : Board → List ℕ
dimms b = map (λ (r : Record). r.birth) (filter (λ (r : Record). is_dimm r && is_realized b r.birth) b.records)

abbrev pub backend_of : Board → ℕ → Option ℕ
backend_of b d = strong_at b d (codes "memdev")

abbrev pub has_backend : Board → ℕ → ℕ → Bool
has_backend b m d = option_map_or (λ n. n == m) (backend_of b d) false

abbrev pub range_in : Registers → List Range
range_in (dimm r) = range_at r.address r.size ∷ []
range_in r = []

abbrev pub ranges_of : Board → List Range
ranges_of b = flat_map (λ d. option_map_or (λ (r : Record). range_in r.registers) (record_of b d) []) (dimms b)

abbrev pub size_of : Board → ℕ → ℕ
size_of b m = unwrap_or (number_at b m (codes "size")) 0

abbrev pub range_for : Board → Option ℕ → ℕ → Result Range Code
range_for b (Some at) size =
    if is_in_window (range_at at size) && not (overlaps_any (range_at at size) (ranges_of b)) then Ok (range_at at size) else Err E40
range_for b None size = elim (free_address (ranges_of b) size DIMM_ALIGN) [ None ↦ Err E41 | Some at ↦ Ok (range_at at size) ]

abbrev pub code_in : {T : Type 0} → Result T Code → Option Code
code_in (Ok x) = None
code_in (Err code) = Some code

abbrev pub range_barred : Board → List Given → Option ℕ → Option Code
range_barred b props None = Some E38
range_barred b props (Some m) =
    if list_any (has_backend b m) (dimms b) then Some E39 else code_in (range_for b (number_for props (codes "addr")) (size_of b m))

abbrev pub kind_barred : Board → TypeId → ℕ → List Given → Option Code
kind_barred b MemDimm bus props = range_barred b props (target_for b MemoryBackend props (codes "memdev"))
kind_barred b SlotBridge bus props = if nat_le BUS_DEPTH_MAX (depth_of b bus) then Some E42 else None
kind_barred b t bus props = None

abbrev pub place_barred : Board → TypeId → ℕ → List Given → Option Code
place_barred b t bus props = option_or (code_in (bus_slot_for b bus (number_for props (codes "slot")))) (kind_barred b t bus props)

-- stage 6: the ring of a UART
abbrev pub has_ring : Board → List ℕ → Bool
has_ring b id = list_any (λ (r : Ring). bytes_eq r.id id) b.rings

abbrev pub claims_ring : Board → List ℕ → Record → Bool
claims_ring b id r = is_a r.kind (codes "slot-uart") && is_realized b r.birth && option_map_or (bytes_eq id) (text_at b r.birth (codes "chardev")) false

abbrev pub ring_barred : Board → List ℕ → Option Code
ring_barred b [] = None
ring_barred b id = if not (has_ring b id) then Some E36 else if list_any (claims_ring b id) b.records then Some E37 else None

abbrev pub realize_barred : Board → TypeId → List Given → Option Code
realize_barred b SlotUart props = ring_barred b (text_for props (codes "chardev"))
realize_barred b t props = None

-- stage 8: the notices
abbrev pub notice_barred : Board → Option Code
notice_barred b = if nat_le NOTICES_MAX (length b.notices) then Some E44 else None

-- the first refusal that stands, with its stage
abbrev pub at_stage : ℕ → Option Code → Option (ℕ × Code)
at_stage stage code = option_map (λ (c : Code). (stage, c)) code

abbrev pub first_of : List (Option (ℕ × Code)) → Option (ℕ × Code)
first_of [] = None
first_of (o ∷ os) = option_or o (first_of os)

-- before an attempt is made; and from the properties on
abbrev pub barred_early : Board → TypeId → Wanted → Option (ℕ × Code)
barred_early b t a =
    first_of (at_stage 2 (id_barred b a.id) ∷ at_stage 3 (bus_barred b t (bus_for b t a.bus)) ∷ at_stage 4 (room_barred b t) ∷ [])

abbrev pub barred_late : Board → TypeId → ℕ → List Given → Option (ℕ × Code)
barred_late b t bus props =
    first_of (at_stage 4 (refusal_of b t props) ∷ at_stage 5 (place_barred b t bus props) ∷ at_stage 6 (realize_barred b t props) ∷ at_stage 8 (notice_barred b)
    ∷ [])

-- notes
abbrev pub did : Act → ℕ → Note
did act n = record { birth = n; deed = Did act }

abbrev pub begun_notes : List (ℕ × TypeId) → List Note
begun_notes os = flat_map (λ (o : ℕ × TypeId). init_notes o.0 o.1) os

abbrev pub ended_notes : List (ℕ × TypeId) → List Note
ended_notes os = flat_map (λ (o : ℕ × TypeId). ending o.0 o.1) os

-- the further objects end first, in order, and then the device
abbrev pub device_last : List (ℕ × TypeId) → List (ℕ × TypeId)
device_last [] = []
device_last (o ∷ os) = os ++ o ∷ []

-- what is noted of a device that is realized, goes through the phases on a bus, and is unrealized
abbrev pub passed_notes : Board → ℕ → ℕ → TypeId → List Note
passed_notes b bus n t =
    let buses = bus_births n t in
    map (did Realize) (n ∷ buses) ++ map (did Enter) (buses ++ n ∷ []) ++ map (did Hold) (buses ++ n ∷ [])
    ++ map (did Exit) (if count b bus == 0 then buses ++ n ∷ [] else [])
    ++ map (did Unrealize) (buses ++ n ∷ [])

-- the board after an attempt that was given up: some of the objects were made, in order, this was noted of them, and they ended in this order
abbrev pub with_ended : Board → List (ℕ × TypeId) → List Note → List (ℕ × TypeId) → Board
with_ended b made passed ended =
    record b { born = b.born + length made; notes = b.notes ++ begun_notes made ++ passed ++ ended_notes ended }

-- at a stage
abbrev pub plug_attempt : Board → TypeId → ℕ → ℕ → Board
plug_attempt b t bus stage =
    let os = born_from (suc b.born) (types_in t) in
    with_ended b os (if stage == 8 then passed_notes b bus (suc b.born) t else []) (device_last os)

-- cut for want of memory, after so many objects; the last one, where it was not joined, ends first
abbrev pub cut_order : Bool → ℕ → List (ℕ × TypeId) → List (ℕ × TypeId)
cut_order true i os = device_last os
cut_order false zero os = []
cut_order false (suc i) os = drop i os ++ device_last (take i os)

abbrev pub cut_attempt : Board → TypeId → ℕ → Bool → Board
cut_attempt b t i joined = let os = take i (born_from (suc b.born) (types_in t)) in with_ended b os [] (cut_order joined i os)

-- where a device goes: its bus and its slot there, and of a DIMM its range
pub record Resources : Type 0 where
  pub bus : ℕ
  pub slot : ℕ
  pub range : Option Range

abbrev pub ok_or_zero : Result ℕ Code → ℕ
ok_or_zero (Ok n) = n
ok_or_zero (Err code) = 0

abbrev pub ok_in : {T : Type 0} → Result T Code → Option T
ok_in (Ok x) = Some x
ok_in (Err code) = None

abbrev pub range_of : Board → TypeId → List Given → Option Range
range_of b MemDimm props =
    option_and_then (λ m. ok_in (range_for b (number_for props (codes "addr")) (size_of b m))) (target_for b MemoryBackend props (codes "memdev"))
range_of b t props = None

abbrev pub resources_of : Board → TypeId → ℕ → List Given → Resources
resources_of b t bus props =
    record { bus = bus; slot = ok_or_zero (bus_slot_for b bus (number_for props (codes "slot"))); range = range_of b t props }

-- an object more after the others, of the next birth; its initializers are noted
abbrev pub with_new : Record → Board → Board
with_new r b = record b { records = b.records ++ r ∷ []; born = b.born + 1; notes = b.notes ++ init_notes (b.born + 1) r.kind }

-- a further object of n is made and joined to it
abbrev pub with_kid : ℕ → List ℕ → TypeId → Board → Board
with_kid n name t b = add n name (child (b.born + 1)) (with_new (fresh_record (b.born + 1) t) b)

-- the own child of a name
abbrev pub owned : Board → ℕ → List ℕ → Option ℕ
owned b n name = option_and_then child_named (slot_named b n name)

abbrev pub aliased : ℕ → List ℕ → List ℕ → Option ℕ → Board → Board
aliased n name property None b = b
aliased n name property (Some m) b = add n name (alias m property) b

-- what a property of a type comes to at a new object n of the type: a plain slot, an empty link, a further object, or an alias of one that was made before
abbrev pub property_made : ℕ → TypeId → List ℕ → PropertyRole → Board → Board
property_made n t name (row.Plain type first) b = add n name (plain (first_value t first)) b
property_made n t name (row.Link target true) b = add n name (strong target None) b
property_made n t name (row.Link target false) b = add n name (weak target None) b
property_made n t name (row.Child type) b = with_kid n name type b
property_made n t name (row.Alias owner of) b = aliased n name (property_name of) (owned b n (property_name owner)) b

abbrev pub properties_made : ℕ → TypeId → List Property → Board → Board
properties_made n t [] b = b
properties_made n t (p ∷ ps) b = properties_made n t ps (property_made n t (property_name p.name) p.role b)

-- the device is made, property by property, and stands nowhere yet
abbrev pub drafted : Board → TypeId → Board
drafted b t = properties_made (b.born + 1) t (slots_of t) (with_new (fresh (b.born + 1) t) b)

-- it is joined to its container and to its bus
abbrev pub joined : Board → ℕ → Wanted → Resources → Board → Board
joined b n a resources c = add resources.bus (kid_name resources.slot) (strong Device (Some n)) (add (parent_for a.id) (name_for b a.id) (child n) c)

-- an empty link points at m where m is of its type; any other slot stays
abbrev pub fitted : Board → ℕ → Slot → Slot
fitted b m (strong t None) = strong t (only_of b (type_name t) m)
fitted b m (weak t None) = weak t (only_of b (type_name t) m)
fitted b m s = s

abbrev pub link_named : ℕ → List ℕ → ℕ → Board → Board
link_named n name m b = elim (index_from (is_named name) 0 (slots_at b n)) [ None ↦ b | Some i ↦ edit n (with_changed (fitted b m) i) b ]

-- the values that were given, where it stands, and that it is realized
abbrev pub with_given : Board → List Given → Record → Record
with_given b props r = record r { slots = map (slot_given b props) r.slots }

abbrev pub valued : Board → ℕ → List Given → Resources → Board → Board
valued b n props resources c =
    set_named n (codes "realized") (val.Bool true)
    (link_named n (codes "parent_bus") resources.bus
    (set_named n (codes "slot") (val.Uint resources.slot)
    (edit n (with_given b props) c)))

-- a DIMM stands at its address
abbrev pub addressed_at : ℕ → Option Range → Board → Board
addressed_at n None c = c
addressed_at n (Some r) c = set_named n (codes "addr") (val.Uint r.at) c

-- what it is besides its slots: its id, and the range of a DIMM
abbrev pub registers_on : Option Range → Registers → Registers
registers_on None old = old
registers_on (Some r) old = dimm (record { address = r.at; size = r.size })

abbrev pub with_body_of : Option (List ℕ) → Option Range → Record → Record
with_body_of id range r = record r { registers = registers_on range r.registers; device_id = id }

-- the clock that a device's clock is connected to: that of the bridge whose bus this is, or the system's
abbrev pub source_for : Board → ℕ → ℕ
source_for b bus = unwrap_or (option_and_then (clock_of b) (bridge_of b bus)) SYSTEM_CLOCK_BIRTH

abbrev pub with_source : ℕ → Option ℕ → Board → Board
with_source source None b = b
with_source source (Some c) b = link_named c (codes "source") source b

-- one accepted add more of a device without id
abbrev pub counted : Option (List ℕ) → Board → Board
counted None b = record b { anonymous = suc b.anonymous }
counted (Some id) b = b

-- a device n that was made stands in its place
abbrev pub stood : Board → ℕ → Wanted → Resources → Board → Board
stood b n a resources c = edit n (with_body_of a.id resources.range) (addressed_at n resources.range (valued b n a.props resources (joined b n a resources c)))

-- and its clock, where it has one, has its source
abbrev pub clocked : ℕ → ℕ → Board → Board
clocked source n c = with_source source (clock_of c n) c

-- the objects are made and stand in their places; the initializers are noted
abbrev pub with_device : Board → TypeId → Wanted → Resources → Board
with_device b t a resources = let n = b.born + 1 in counted a.id (clocked (source_for b resources.bus) n (stood b n a resources (drafted b t)))

-- acts, noted in order
abbrev pub acted_all : Act → List ℕ → Board → Board
acted_all act [] b = b
acted_all act (n ∷ ns) b = acted_all act ns (acted act n 0 b)

-- the acts of a device that is given up after them: it is realized, goes through the phases on a bus, and is unrealized
abbrev pub passed : Board → ℕ → ℕ → TypeId → Board → Board
passed b bus n t c =
    let buses = bus_births n t in
    let held = acted_all Hold (buses ++ n ∷ []) (acted_all Enter (buses ++ n ∷ []) (acted_all Realize (n ∷ buses) c)) in
    acted_all Unrealize (buses ++ n ∷ []) (acted_all Exit (if count b bus == 0 then buses ++ n ∷ [] else []) held)

-- the guest is told, and the path of the device is kept
abbrev pub with_path : Option (List ℕ) → Record → Record
with_path path r = record r { kept_path = path }

abbrev pub notified_plug : ℕ → Board → Board
notified_plug n b = let c = edit n (with_path (canonical b n)) b in record c { notices = b.notices ++ record { plug = true; birth = n } ∷ [] }

-- it acts, goes through the phases, and the guest is told
abbrev pub started : ℕ → TypeId → Board → Board
started n t c = notified_plug n (plugged (acted_all Realize (n ∷ bus_births n t) c) n)

-- a device is added
abbrev pub with_plugged : Board → TypeId → Wanted → Resources → Board
with_plugged b t a resources = started (b.born + 1) t (with_device b t a resources)

-- what adding comes to: the stage and the code that refuse it, if they do, and the board after it
pub record Plugged : Type 0 where
  pub refusal : Option (ℕ × Code)
  pub board : Board

abbrev pub plug_late : Board → TypeId → ℕ → Wanted → Option (ℕ × Code) → Plugged
plug_late b t bus a (Some refusal) = record { refusal = Some refusal; board = plug_attempt b t bus refusal.0 }
plug_late b t bus a None = record { refusal = None; board = with_plugged b t a (resources_of b t bus a.props) }

abbrev pub plug_on : Board → TypeId → ℕ → Wanted → Plugged
plug_on b t bus a = plug_late b t bus a (barred_late b t bus a.props)

abbrev pub plug_as : Board → TypeId → Wanted → Option (ℕ × Code) → Plugged
plug_as b t a (Some refusal) = record { refusal = Some refusal; board = b }
plug_as b t a None = elim (bus_for b t a.bus) [ None ↦ record { refusal = None; board = b } | Some bus ↦ plug_on b t bus a ]

abbrev pub plug_by : Board → Wanted → Option Code → Plugged
plug_by b a (Some code) = record { refusal = Some (1, code); board = b }
plug_by b a None = elim (type_named a.driver) [ None ↦ record { refusal = None; board = b } | Some row ↦ plug_as b row.id a (barred_early b row.id a) ]

unfoldable pub plug : Board → Wanted → Plugged
plug b a = plug_by b a (type_barred a.driver)
