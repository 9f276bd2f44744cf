-- Descriptions of boards, and their texts (the profile's; RFC 8259, "Objects").
use Rattle.std.specs.Prelude.{ℕ, List, [], ◌∷◌, map, codes}
use Rattle.serde_json.specs.Data.{Data, array, member, Members, no_members, number, object, string, unsigned}
use Rattle.serde_json.specs.View.{items_of}
use Rattle.qo_values.specs.PlainValues.{data_of}
use Rattle.qo_model.specs.Objects.{Given}
use Rattle.qo_replies.specs.Json.{json}

-- the numbers of the system clock
pub record ClockNumbers : Type 0 where
  pub div : ℕ
  pub mul : ℕ
  pub period : ℕ

-- how another clock, at a path, divides and multiplies
pub record ClockItem : Type 0 where
  pub div : ℕ
  pub mul : ℕ
  pub path : List ℕ

-- a device: the path of its bus, its type's name, its id, its properties, and its slot on the bus
pub record DeviceItem : Type 0 where
  pub bus : List ℕ
  pub driver : List ℕ
  pub id : List ℕ
  pub props : List Given
  pub slot : ℕ

-- a link: the path of the object that has it, its name, and the path of its target
pub record LinkItem : Type 0 where
  pub path : List ℕ
  pub property : List ℕ
  pub value : List ℕ

-- a user's object: its id, its properties, and its type's name
pub record ObjectItem : Type 0 where
  pub id : List ℕ
  pub props : List Given
  pub kind : List ℕ

-- a ring
pub record RingItem : Type 0 where
  pub id : List ℕ
  pub size : ℕ

-- a board, as far as commands make it
pub record Description : Type 0 where
  pub clock : ClockNumbers
  pub clocks : List ClockItem
  pub devices : List DeviceItem
  pub links : List LinkItem
  pub objects : List ObjectItem
  pub rings : List RingItem

-- the members of each in JSON, in byte order
abbrev pub clock_names : List (List ℕ)
clock_names = codes "div" ∷ codes "mul" ∷ codes "period" ∷ []

abbrev pub clock_item_names : List (List ℕ)
clock_item_names = codes "div" ∷ codes "mul" ∷ codes "path" ∷ []

abbrev pub device_names : List (List ℕ)
device_names = codes "bus" ∷ codes "driver" ∷ codes "id" ∷ codes "props" ∷ codes "slot" ∷ []

abbrev pub link_names : List (List ℕ)
link_names = codes "path" ∷ codes "property" ∷ codes "value" ∷ []

abbrev pub object_names : List (List ℕ)
object_names = codes "id" ∷ codes "props" ∷ codes "type" ∷ []

abbrev pub ring_names : List (List ℕ)
ring_names = codes "id" ∷ codes "size" ∷ []

abbrev pub description_names : List (List ℕ)
description_names = codes "clock" ∷ codes "clocks" ∷ codes "devices" ∷ codes "links" ∷ codes "objects" ∷ codes "rings" ∷ codes "version" ∷ []

-- an object with values under names, one for each
abbrev pub members : List (List ℕ) → List Data → Members
members (name ∷ names) (d ∷ ds) = member name d (members names ds)
members names ds = no_members

abbrev pub named : List (List ℕ) → List Data → Data
named names ds = object (members names ds)

-- a number, a list, and properties
abbrev pub whole : ℕ → Data
whole n = number (unsigned n)

abbrev pub listed : {X : Type 0} → (X → Data) → List X → Data
listed f xs = array (items_of (map f xs))

abbrev pub props_members : List Given → Members
props_members [] = no_members
props_members (p ∷ props) = member p.0 (data_of p.1) (props_members props)

-- a description in JSON
abbrev pub clock_data : ClockNumbers → Data
clock_data c = named clock_names (whole c.div ∷ whole c.mul ∷ whole c.period ∷ [])

abbrev pub clock_item_data : ClockItem → Data
clock_item_data c = named clock_item_names (whole c.div ∷ whole c.mul ∷ string c.path ∷ [])

abbrev pub device_data : DeviceItem → Data
device_data d = named device_names (string d.bus ∷ string d.driver ∷ string d.id ∷ object (props_members d.props) ∷ whole d.slot ∷ [])

abbrev pub link_data : LinkItem → Data
link_data l = named link_names (string l.path ∷ string l.property ∷ string l.value ∷ [])

abbrev pub object_data : ObjectItem → Data
object_data o = named object_names (string o.id ∷ object (props_members o.props) ∷ string o.kind ∷ [])

abbrev pub ring_data : RingItem → Data
ring_data r = named ring_names (string r.id ∷ whole r.size ∷ [])

abbrev pub description_data : Description → Data
description_data d =
    named description_names
    (clock_data d.clock ∷ listed clock_item_data d.clocks ∷ listed device_data d.devices ∷ listed link_data d.links ∷ listed object_data d.objects
    ∷ listed ring_data d.rings ∷ whole 1 ∷ [])

-- its text
abbrev pub description_text : Description → List ℕ
description_text d = json (description_data d)
