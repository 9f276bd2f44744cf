-- Which texts are descriptions: those with exactly the members of one, each of its kind (the profile's).
use Rattle.std.specs.Prelude.{ℕ, Bool, false, ◌==◌, if◌then◌else◌, List, [], ◌∷◌, codes, Option, Some, None, option_map, option_and_then}
use Rattle.std.specs.Option.{option_map_or}
use Rattle.std.specs.Str.{bytes_eq}
use Rattle.serde_json.specs.Data.{Data, item, Items, member, Members, no_items, no_members}
use Rattle.serde_json.specs.Find.{as_array, as_number, as_object, as_str, as_u64}
use Rattle.serde_json.specs.Read.{read}
use Rattle.qo_values.specs.PlainValues.{plain_of}
use Rattle.qo_values.specs.declared.properties.Val.{Val}
use Rattle.qo_model.specs.Objects.{Given}
use Rattle.qo_save.specs.Description.{ClockItem, clock_item_names, ClockNumbers, clock_names, Description, description_names, DeviceItem, device_names, LinkItem, link_names, ObjectItem, object_names, RingItem, ring_names}

-- a function of what is there, of one thing more
abbrev pub also : {A B : Type 0} → Option (A → B) → Option A → Option B
also None o = None
also (Some f) o = option_map f o

-- the values of an object that has members of exactly these names, in their order
abbrev pub values_of : List (List ℕ) → Members → Option (List Data)
values_of [] no_members = Some []
values_of (name ∷ names) (member own d ms) = if bytes_eq name own then option_map (λ (ds : List Data). d ∷ ds) (values_of names ms) else None
values_of names ms = None

abbrev pub values_in : List (List ℕ) → Data → Option (List Data)
values_in names d = option_and_then (values_of names) (as_object d)

-- a number, a list, and properties, none of which is a slot
abbrev pub whole_in : Data → Option ℕ
whole_in d = option_and_then as_u64 (as_number d)

abbrev pub all_of : {X : Type 0} → (Data → Option X) → Items → Option (List X)
all_of f no_items = Some []
all_of f (item d ds) = also (option_map (λ x xs. x ∷ xs) (f d)) (all_of f ds)

abbrev pub list_in : {X : Type 0} → (Data → Option X) → Data → Option (List X)
list_in f d = option_and_then (all_of f) (as_array d)

abbrev pub props_of : Members → Option (List Given)
props_of no_members = Some []
props_of (member name d ms) =
    if bytes_eq name (codes "slot") then None else also (option_map (λ (v : Val) (props : List Given). (name, v) ∷ props) (plain_of d)) (props_of ms)

abbrev pub props_in : Data → Option (List Given)
props_in d = option_and_then props_of (as_object d)

-- the numbers of the system clock
abbrev pub clock_numbers : ℕ → ℕ → ℕ → ClockNumbers
clock_numbers div mul period = record { div = div; mul = mul; period = period }

abbrev pub clock_of : List Data → Option ClockNumbers
clock_of (div ∷ mul ∷ period ∷ []) = also (also (option_map clock_numbers (whole_in div)) (whole_in mul)) (whole_in period)
clock_of ds = None

abbrev pub clock_in : Data → Option ClockNumbers
clock_in d = option_and_then clock_of (values_in clock_names d)

-- how another clock divides and multiplies
abbrev pub clock_item : ℕ → ℕ → List ℕ → ClockItem
clock_item div mul path = record { div = div; mul = mul; path = path }

abbrev pub clock_item_of : List Data → Option ClockItem
clock_item_of (div ∷ mul ∷ path ∷ []) = also (also (option_map clock_item (whole_in div)) (whole_in mul)) (as_str path)
clock_item_of ds = None

abbrev pub clock_item_in : Data → Option ClockItem
clock_item_in d = option_and_then clock_item_of (values_in clock_item_names d)

-- a device
abbrev pub device_item : List ℕ → List ℕ → List ℕ → List Given → ℕ → DeviceItem
device_item bus driver id props slot = record { bus = bus; driver = driver; id = id; props = props; slot = slot }

abbrev pub device_of : List Data → Option DeviceItem
device_of (bus ∷ driver ∷ id ∷ props ∷ slot ∷ []) =
    also (also (also (also (option_map device_item (as_str bus)) (as_str driver)) (as_str id)) (props_in props)) (whole_in slot)
device_of ds = None

abbrev pub device_in : Data → Option DeviceItem
device_in d = option_and_then device_of (values_in device_names d)

-- a link
abbrev pub link_item : List ℕ → List ℕ → List ℕ → LinkItem
link_item path property value = record { path = path; property = property; value = value }

abbrev pub link_of : List Data → Option LinkItem
link_of (path ∷ property ∷ value ∷ []) = also (also (option_map link_item (as_str path)) (as_str property)) (as_str value)
link_of ds = None

abbrev pub link_in : Data → Option LinkItem
link_in d = option_and_then link_of (values_in link_names d)

-- a user's object
abbrev pub object_item : List ℕ → List Given → List ℕ → ObjectItem
object_item id props kind = record { id = id; props = props; kind = kind }

abbrev pub object_of : List Data → Option ObjectItem
object_of (id ∷ props ∷ kind ∷ []) = also (also (option_map object_item (as_str id)) (props_in props)) (as_str kind)
object_of ds = None

abbrev pub object_in : Data → Option ObjectItem
object_in d = option_and_then object_of (values_in object_names d)

-- a ring
abbrev pub ring_item : List ℕ → ℕ → RingItem
ring_item id size = record { id = id; size = size }

abbrev pub ring_of : List Data → Option RingItem
ring_of (id ∷ size ∷ []) = also (option_map ring_item (as_str id)) (whole_in size)
ring_of ds = None

abbrev pub ring_in : Data → Option RingItem
ring_in d = option_and_then ring_of (values_in ring_names d)

-- a description, whose version is 1
abbrev pub description : ClockNumbers → List ClockItem → List DeviceItem → List LinkItem → List ObjectItem → List RingItem → Description
description clock clocks devices links objects rings =
    record { clock = clock; clocks = clocks; devices = devices; links = links; objects = objects; rings = rings }

abbrev pub is_one : Data → Bool
is_one d = option_map_or (λ n. n == 1) (whole_in d) false

abbrev pub description_of : List Data → Option Description
description_of (clock ∷ clocks ∷ devices ∷ links ∷ objects ∷ rings ∷ version ∷ []) =
    if is_one version then
    also
    (also
    (also
    (also (also (option_map description (clock_in clock)) (list_in clock_item_in clocks)) (list_in device_in devices))
    (list_in link_in links))
    (list_in object_in objects))
    (list_in ring_in rings)
    else None
description_of ds = None

abbrev pub description_in : Data → Option Description
description_in d = option_and_then description_of (values_in description_names d)

-- the description that a text is, if it is one
abbrev pub description_from : List ℕ → Option Description
description_from text = option_and_then description_in (read text)
