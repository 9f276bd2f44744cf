-- When the places of devices are sound: what stands in the containers of devices, what hangs on buses, how deep buses are, and which devices are realized.
use Rattle.std.specs.Prelude.{◌≡◌, ◌≢◌, ℕ, ◌≤◌, ◌<◌, suc, ◌==◌, ◌&&◌, ◌||◌, not, Bool, true, false, List, [], ◌∷◌, ◌++◌, filter_map, codes, Option, Some, None, option_and_then}
use Rattle.std.specs.List.{AllByRecursion, list_any}
use Rattle.std.specs.Option.{option_map_or}
use Rattle.std.specs.Str.{bytes_eq}
use Rattle.qo_values.specs.declared.births.TheConstants.{ANONYMOUS_BIRTH, MACHINE_BIRTH, MEMORY_BUS_BIRTH, OBJECTS_BIRTH, PERIPHERAL_BIRTH, ROOT_BIRTH, ROOT_BUS_BIRTH, SYSTEM_CLOCK_BIRTH}
use Rattle.qo_values.specs.declared.kinds.TypeId.TheVariants.{Container}
use Rattle.qo_values.specs.declared.limits.TheConstants.{BUS_DEPTH_MAX, BUS_SLOTS}
use Rattle.qo_model.specs.Board.{Board, Record, Slot, child, strong, kind_of, record_of, slots_at}
use Rattle.qo_model.specs.Depth.{among}
use Rattle.qo_model.specs.Devices.{anonymous_name, bus_of, clock_name, is_realized, kid_name, bus_slot_of}
use Rattle.qo_model.specs.Paths.{is_of}
use Rattle.qo_model.specs.Plug.{bus_type}

-- the name of a child slot, and the object that it names; and the same of a strong link that is not empty
abbrev pub child_entry : List ℕ × Slot → Option (List ℕ × ℕ)
child_entry (name, child m) = Some (name, m)
child_entry s = None

abbrev pub kid_entry : List ℕ × Slot → Option (List ℕ × ℕ)
kid_entry (name, strong t (Some m)) = Some (name, m)
kid_entry s = None

-- those of an object, in order
abbrev pub child_entries : Board → ℕ → List (List ℕ × ℕ)
child_entries b n = filter_map child_entry (slots_at b n)

abbrev pub kid_entries : Board → ℕ → List (List ℕ × ℕ)
kid_entries b n = filter_map kid_entry (slots_at b n)

-- whether one of them names d
abbrev pub names_it : ℕ → List ℕ × ℕ → Bool
names_it d e = e.1 == d

abbrev pub listed : ℕ → List (List ℕ × ℕ) → Bool
listed d es = list_any (names_it d) es

-- whether d stands in a container of devices
abbrev pub stands : Board → ℕ → Bool
stands b d = listed d (child_entries b PERIPHERAL_BIRTH) || listed d (child_entries b ANONYMOUS_BIRTH)

-- whether p has q as a bus: as a child that is not its clock
abbrev pub owns_it : ℕ → List ℕ × ℕ → Bool
owns_it q e = e.1 == q && not (bytes_eq e.0 clock_name)

abbrev pub owns : Board → ℕ → ℕ → Bool
owns b p q = list_any (owns_it q) (child_entries b p)

-- the id and the kept path of an object
abbrev pub id_of : Board → ℕ → Option (List ℕ)
id_of b n = option_and_then (λ (r : Record). r.device_id) (record_of b n)

abbrev pub path_of : Board → ℕ → Option (List ℕ)
path_of b n = option_and_then (λ (r : Record). r.kept_path) (record_of b n)

-- what stands under a name at `/machine/peripheral` and at `/machine/peripheral-anon`
pub record IsPeripheral (b : Board) (e : List ℕ × ℕ) : Type 0 where
  pub device : is_of b (codes "device") e.1 ≡ true
  pub id : id_of b e.1 ≡ Some e.0
  pub path : path_of b e.1 ≡ Some (codes "/machine/peripheral/" ++ e.0)

pub record IsAnonymous (b : Board) (e : List ℕ × ℕ) : Type 0 where
  pub device : is_of b (codes "device") e.1 ≡ true
  pub id : id_of b e.1 ≡ None
  pub path : path_of b e.1 ≡ Some (codes "/machine/peripheral-anon/" ++ e.0)
  pub numbered : (n : ℕ) × ((n < b.anonymous) × (e.0 ≡ anonymous_name n))

-- whether a bus is one for a device: for its type
abbrev pub suits : Board → ℕ → ℕ → Bool
suits b bus d = option_map_or (λ t. is_of b (bus_type t) bus) (kind_of b d) false

-- what a bus has in a slot: it is one for this bus, stands in a container, and names the bus and its slot
pub record IsKid (b : Board) (bus : ℕ) (e : List ℕ × ℕ) : Type 0 where
  pub there : stands b e.1 ≡ true
  pub on : bus_of b e.1 ≡ Some bus
  pub fits : suits b bus e.1 ≡ true
  pub slot : (k : ℕ) × ((k < BUS_SLOTS) × ((bus_slot_of b e.1 ≡ Some k) × (e.0 ≡ kid_name k)))

-- a device is on a bus, and the bus has it
pub record IsHome (b : Board) (d : ℕ) : Type 0 where
  pub bus : ℕ
  pub on : bus_of b d ≡ Some bus
  pub is_bus : is_of b (codes "bus") bus ≡ true
  pub kid : listed d (kid_entries b bus) ≡ true

-- a bus is one of the machine's, or one of a device that stands in a container
pub data HasOwner (b : Board) (q : ℕ) : Type 0 where
  machines : among (ROOT_BUS_BIRTH ∷ MEMORY_BUS_BIRTH ∷ []) q ≡ true → HasOwner b q
  bridges : (p : ℕ) → stands b p ≡ true → owns b p q ≡ true → HasOwner b q

-- how many bridges stand above each bus: none above the machine's, one more above a bridge's than above the bus that the bridge is on, and no more than the
-- profile allows
pub record IsShallow (depth : ℕ → ℕ) (b : Board) : Type 0 where
  pub top : AllByRecursion (λ q. depth q ≡ 0) (ROOT_BUS_BIRTH ∷ MEMORY_BUS_BIRTH ∷ [])
  pub below : (p q m : ℕ) → stands b p ≡ true → bus_of b p ≡ Some q → owns b p m ≡ true → depth m ≡ suc (depth q)
  pub most : (q : ℕ) → HasOwner b q → depth q ≤ BUS_DEPTH_MAX

-- whether a name and what it names are among the entries
abbrev pub has_entry : List ℕ × ℕ → List (List ℕ × ℕ) → Bool
has_entry e es = list_any (λ (x : List ℕ × ℕ). x.1 == e.1 && bytes_eq x.0 e.0) es

-- how a bus is a child: it is one of the machine's, or a device's under another name than a clock's
pub data IsHosted (b : Board) (p : ℕ) (e : List ℕ × ℕ) : Type 0 where
  on_machine : among (ROOT_BUS_BIRTH ∷ MEMORY_BUS_BIRTH ∷ []) e.1 ≡ true → IsHosted b p e
  on_device : is_of b (codes "device") p ≡ true → bytes_eq e.0 clock_name ≡ false → IsHosted b p e

-- what p has as a child under a name: a bus as said, and a device where p is a container of devices
pub record IsAtHome (b : Board) (p : ℕ) (e : List ℕ × ℕ) : Type 0 where
  pub bus : is_of b (codes "bus") e.1 ≡ true → IsHosted b p e
  pub device : is_of b (codes "device") e.1 ≡ true → among (PERIPHERAL_BIRTH ∷ ANONYMOUS_BIRTH ∷ []) p ≡ true

-- the root is a container, and the machine and the containers of devices stand under their names
pub record IsRooted (b : Board) : Type 0 where
  pub root : kind_of b ROOT_BIRTH ≡ Some Container
  pub machine : has_entry (codes "machine", MACHINE_BIRTH) (child_entries b ROOT_BIRTH) ≡ true
  pub peripheral : has_entry (codes "peripheral", PERIPHERAL_BIRTH) (child_entries b MACHINE_BIRTH) ≡ true
  pub anonymous : has_entry (codes "peripheral-anon", ANONYMOUS_BIRTH) (child_entries b MACHINE_BIRTH) ≡ true

-- the facts, by the depths of buses, where one device may have left its bus, and those of `out` may be unrealized
pub record PlacesBut (depth : ℕ → ℕ) (left : Option ℕ) (out : ℕ → Bool) (b : Board) : Type 0 where
  -- the objects of the machine under their parents
  pub machine : listed MACHINE_BIRTH (child_entries b ROOT_BIRTH) ≡ true
  pub objects : listed OBJECTS_BIRTH (child_entries b ROOT_BIRTH) ≡ true
  pub parts : AllByRecursion (λ n. listed n (child_entries b MACHINE_BIRTH) ≡ true)
      (PERIPHERAL_BIRTH ∷ ANONYMOUS_BIRTH ∷ ROOT_BUS_BIRTH ∷ MEMORY_BUS_BIRTH ∷ SYSTEM_CLOCK_BIRTH ∷ [])
  pub rooted : IsRooted b
  -- what is a child of which object
  pub children : (p : ℕ) → AllByRecursion (IsAtHome b p) (child_entries b p)
  -- these, and `/objects`, stand in no container of devices
  pub aside : AllByRecursion (λ n. stands b n ≡ false)
      (ROOT_BIRTH ∷ MACHINE_BIRTH ∷ PERIPHERAL_BIRTH ∷ ANONYMOUS_BIRTH ∷ ROOT_BUS_BIRTH ∷ MEMORY_BUS_BIRTH ∷ OBJECTS_BIRTH ∷ [])
  -- what stands in the containers
  pub peripheral : AllByRecursion (IsPeripheral b) (child_entries b PERIPHERAL_BIRTH)
  pub anonymous : AllByRecursion (IsAnonymous b) (child_entries b ANONYMOUS_BIRTH)
  -- buses and those on them
  pub kids : (q : ℕ) → is_of b (codes "bus") q ≡ true → AllByRecursion (IsKid b q) (kid_entries b q)
  pub home : (d : ℕ) → stands b d ≡ true → left ≢ Some d → IsHome b d
  pub owner : (d q : ℕ) → stands b d ≡ true → bus_of b d ≡ Some q → HasOwner b q
  pub shallow : IsShallow depth b
  -- who is realized
  pub only : (d : ℕ) → is_realized b d ≡ true → stands b d ≡ true
  pub each : (d : ℕ) → stands b d ≡ true → out d ≡ false → is_realized b d ≡ true
  -- an id is a device's, and no other's
  pub ids : (d : ℕ) (id : List ℕ) → id_of b d ≡ Some id → is_of b (codes "device") d ≡ true
  pub once : (d e : ℕ) (id : List ℕ) → id_of b d ≡ Some id → id_of b e ≡ Some id → d ≡ e

-- the places are sound
abbrev pub SoundPlaces : Board → Type 0
SoundPlaces b = (depth : ℕ → ℕ) × PlacesBut depth None (λ d. false) b
