-- The parts of devices, and what a describable board has at which path.
use Rattle.std.proofs.Common.{◌≡◌, ◌⊎◌, inl, inr, refl, ap, sym, subst, ◌∙◌, rules, ℕ, Bool, true, false, ◌==◌, eqb, List, [], ◌∷◌, ◌++◌, filter_map, map, Option, Some, None, is_some, option_map, option_and_then, unwrap_or, codes}
use Rattle.qo_model.proofs.Common.{⊤, AllByRecursion, option_map_or, is_id, type_name, ANONYMOUS_BIRTH, MACHINE_BIRTH, MEMORY_BUS_BIRTH, OBJECTS_BIRTH, PERIPHERAL_BIRTH, ROOT_BIRTH, ROOT_BUS_BIRTH, SYSTEM_CLOCK_BIRTH, TypeId, Clock, Container, Machine, MemBus, Object, SlotBridge, SlotBus, SlotDevice, SlotTimer, SlotUart, Board, Record, Slot, plain, child, strong, weak, alias, is_live, kind_of, record_of, among, further_in, further_of, is_of, opening_board, is_a, slots_of, types}
use Rattle.std.proofs.lemmas.Bool.{eqb-true}
use Rattle.std.proofs.lemmas.Option.{same_Some}
use Rattle.qo_values.proofs.EachLemmas.{each}
use Rattle.qo_values.proofs.ListLemmas.{all-imply}
use Rattle.qo_model.specs.Properties.{path_text}
use Rattle.qo_model.specs.RowNames.{property_name}
use Rattle.qo_model.specs.declared.properties.Property.{Property}
use Rattle.qo_model.specs.declared.properties.PropertyRole.{PropertyRole}
use Rattle.qo_model.specs.declared.properties.PropertyRole.TheVariants as row
use Rattle.qo_save.specs.Described.{description, device_item, device_of, is_describable, object_item, object_of}
use Rattle.qo_save.specs.Description.{Description, DeviceItem, ObjectItem}
use Rattle.qo_sound.proofs.TestLemmas.{clash, clash-back, decide}
use Rattle.qo_sound_devices.specs.SoundPlaces.{child_entries, child_entry, has_entry, IsAtHome, IsPeripheral}
use Rattle.qo_sound_order.specs.SoundOrder.{HasId, is_abstract}
use Rattle.qo_sound_shapes.specs.SoundOwners.{containers}
use Rattle.qo_sound_shapes.specs.SoundShape.{child_type, HasChildType, HasRole, HasSlots, IsFurther, IsOfProperty, type_of_child}
use Rattle.qo_sound_shapes.proofs.RowLemmas.{has-all, IsRowOf, own-rows}
use Rattle.qo_ways.specs.Ways.{IsInOrder}
use Rattle.qo_good.specs.Good.{bus, bus_path, clock, clock_path, device, device_path, first, first_objects, has_clock, IsThere, object, object_path, OneOf}
use Rattle.qo_good.proofs.ItemLemmas.{all-both, all-here, filter_map-all, one-imply, one-map}
use Rattle.qo_good.proofs.PlaceLemmas.{all-entry, device-way, inner-way, none-anonymous, object-way, one-entry, OfKind, of-kind, part-way, machine-entries, machine-way, objects-way, place-there, placed-at, root-entries, settled, told}

-- ---- the further objects of a type

abbrev pub parts_of : TypeId → List (List ℕ × TypeId)
parts_of SlotDevice = (codes "clk", Clock) ∷ []
parts_of SlotUart = (codes "clk", Clock) ∷ []
parts_of SlotTimer = (codes "clk", Clock) ∷ []
parts_of SlotBridge = (codes "clk", Clock) ∷ (codes "bus.0", SlotBus) ∷ []
parts_of t = []

pub further-parts : (t : TypeId) → further_of t ≡ parts_of t
unfolding types
further-parts = each (λ (t : TypeId). further_of t ≡ parts_of t) (search rules)

-- they are those of its rows
abbrev IsPartOf : List (List ℕ × TypeId) → Property → Type 0
IsPartOf fs p = (k : TypeId) → p.role ≡ row.Child k → OneOf (λ (f : List ℕ × TypeId). (f.0 ≡ property_name p.name) × (f.1 ≡ k)) fs

part-passed : (p : Property) (ps : List Property) → further_in p ≡ None → ((k : TypeId) → p.role ≡ row.Child k → ⊥)
    → AllByRecursion (IsPartOf (filter_map further_in ps)) ps → AllByRecursion (IsPartOf (filter_map further_in (p ∷ ps))) (p ∷ ps)
part-passed p ps leaves never rest =
    let is : filter_map further_in (p ∷ ps) ≡ filter_map further_in ps = rw leaves refl in
    subst (λ (fs : List (List ℕ × TypeId)). AllByRecursion (IsPartOf fs) (p ∷ ps)) (sym is) ((λ k e. absurd (never k e)), rest)

part-first : (p : Property) (ps : List Property) (t : TypeId) → p.role ≡ row.Child t → further_in p ≡ Some (property_name p.name, t)
    → AllByRecursion (IsPartOf (filter_map further_in ps)) ps → AllByRecursion (IsPartOf (filter_map further_in (p ∷ ps))) (p ∷ ps)
part-first p ps t q leaves rest =
    let is : filter_map further_in (p ∷ ps) ≡ (property_name p.name, t) ∷ filter_map further_in ps = rw leaves refl in
    subst (λ (fs : List (List ℕ × TypeId)). AllByRecursion (IsPartOf fs) (p ∷ ps)) (sym is) (
      (λ k e. inl (refl, (let same : row.Child t ≡ row.Child k = sym q ∙ e in cc))),
      all-imply (IsPartOf (filter_map further_in ps)) (IsPartOf ((property_name p.name, t) ∷ filter_map further_in ps)) (λ x h k e. inr (h k e)) ps rest,
    )

rows-parts : (ps : List Property) → AllByRecursion (IsPartOf (filter_map further_in ps)) ps
rows-parts [] = tt
rows-parts (p ∷ ps) = go p.role refl (rows-parts ps)
  where
    go : (kind : PropertyRole) → p.role ≡ kind → AllByRecursion (IsPartOf (filter_map further_in ps)) ps
        → AllByRecursion (IsPartOf (filter_map further_in (p ∷ ps))) (p ∷ ps)
    go (row.Child t) q rest = part-first p ps t q (rw q refl) rest
    go (row.Plain type begins) q rest =
        part-passed p ps (rw q refl) (λ k e. let clash : row.Plain type begins ≡ row.Child k = sym q ∙ e in absurd (cc)) rest
    go (row.Link t holds) q rest = part-passed p ps (rw q refl) (λ k e. let clash : row.Link t holds ≡ row.Child k = sym q ∙ e in absurd (cc)) rest
    go (row.Alias owner of) q rest = part-passed p ps (rw q refl) (λ k e. let clash : row.Alias owner of ≡ row.Child k = sym q ∙ e in absurd (cc)) rest

-- ---- the children of an object that is neither a container nor the machine

abbrev pub is_shelf : TypeId → Bool
is_shelf Container = true
is_shelf Machine = true
is_shelf t = false

no-further : (t : TypeId) → is_shelf t ≡ false → (name : List ℕ) (m : ℕ) → IsFurther t (name, child m) → ⊥
no-further Container e name m h = clash e
no-further Machine e name m h = clash e
no-further t e name m h = h

abbrev Inner : TypeId → List ℕ × ℕ → Type 0
Inner t e = (k : TypeId) × ((child_type t e.0 ≡ Some k) × OneOf (λ (f : List ℕ × TypeId). (f.0 ≡ e.0) × (f.1 ≡ k)) (further_of t))

abbrev InnerIn : TypeId → List ℕ × Slot → Type 0
InnerIn t (name, plain v) = ⊤
InnerIn t (name, child m) = Inner t (name, m)
InnerIn t (name, strong to target) = ⊤
InnerIn t (name, weak to target) = ⊤
InnerIn t (name, alias m property) = ⊤

inner-entries : (t : TypeId) (slots : List (List ℕ × Slot)) → AllByRecursion (InnerIn t) slots → AllByRecursion (Inner t) (filter_map child_entry slots)
inner-entries t [] h = tt
inner-entries t ((name, plain v) ∷ slots) h = inner-entries t slots h.1
inner-entries t ((name, child m) ∷ slots) h = (h.0, inner-entries t slots h.1)
inner-entries t ((name, strong to target) ∷ slots) h = inner-entries t slots h.1
inner-entries t ((name, weak to target) ∷ slots) h = inner-entries t slots h.1
inner-entries t ((name, alias m property) ∷ slots) h = inner-entries t slots h.1

abbrev IsRow : TypeId → Property → Type 0
IsRow t p = IsRowOf t p × IsPartOf (further_of t) p

row-inner : (t : TypeId) (p : Property) (s : List ℕ × Slot) → IsRow t p → IsOfProperty p s → InnerIn t s
row-inner t p (name, plain v) h is = tt
row-inner t p (name, strong to target) h is = tt
row-inner t p (name, weak to target) h is = tt
row-inner t p (name, alias m property) h is = tt
row-inner t p (name, child m) h is = role p.role refl is.fits
  where
    role : (kind : PropertyRole) → p.role ≡ kind → HasRole kind (child m) → Inner t (name, m)
    role (row.Child k) q fits =
        let own : child_type t name ≡ type_of_child p.role =
        ap (child_type t) is.name ∙ ap (option_and_then (λ (x : Property). type_of_child x.role)) h.0 in
        (k, (own ∙ ap type_of_child q, one-imply (λ (f : List ℕ × TypeId). (f.0 ≡ property_name p.name) × (f.1 ≡ k)) (λ (f : List ℕ × TypeId). (f.0 ≡ name) × (f.1 ≡ k)) (λ f e. (e.0 ∙ sym is.name, e.1)) (further_of t) (h.1 k q)))
    role (row.Plain type begins) q fits = absurd fits
    role (row.Link to true) q fits = absurd fits
    role (row.Link to false) q fits = absurd fits
    role (row.Alias owner of) q fits = absurd fits

further-inner : (t : TypeId) → is_shelf t ≡ false → (s : List ℕ × Slot) → IsFurther t s → InnerIn t s
further-inner t e (name, plain v) h = tt
further-inner t e (name, child m) h = absurd (no-further t e name m h)
further-inner t e (name, strong to target) h = tt
further-inner t e (name, weak to target) h = tt
further-inner t e (name, alias m property) h = tt

-- each is one of the parts of its type
abbrev pub IsInner : Board → TypeId → List ℕ × ℕ → Type 0
IsInner b t e = OneOf (λ (f : List ℕ × TypeId). (f.0 ≡ e.0) × (kind_of b e.1 ≡ Some f.1)) (parts_of t)

module _ (b : Board) (h : IsInOrder b) where
  pub inner : (p : ℕ) (t : TypeId) → kind_of b p ≡ Some t → is_shelf t ≡ false → AllByRecursion (IsInner b t) (child_entries b p)
  inner p t its e =
      all-imply (λ (x : List ℕ × ℕ). Inner t x × HasChildType b t x) (IsInner b t) one (child_entries b p)
      (all-both (Inner t) (HasChildType b t) (child_entries b p) (go (record_of b p) refl) (h.shape.children p t its))
    where
      one : (x : List ℕ × ℕ) → Inner t x × HasChildType b t x → IsInner b t x
      one x both =
          let (k, (type, among)) = both.0 in
          let kind : kind_of b x.1 ≡ Some k = both.1 k type in
          subst (OneOf (λ (f : List ℕ × TypeId). (f.0 ≡ x.0) × (kind_of b x.1 ≡ Some f.1))) (further-parts t)
          (one-imply (λ (f : List ℕ × TypeId). (f.0 ≡ x.0) × (f.1 ≡ k)) (λ (f : List ℕ × TypeId). (f.0 ≡ x.0) × (kind_of b x.1 ≡ Some f.1))
          (λ f q. (q.0, kind ∙ ap Some (sym q.1))) (further_of t) among)

      rows : AllByRecursion (IsRow t) (slots_of t)
      rows = all-both (IsRowOf t) (IsPartOf (further_of t)) (slots_of t) (own-rows t) (rows-parts (slots_of t))

      go : (o : Option Record) → record_of b p ≡ o → AllByRecursion (Inner t) (child_entries b p)
      go None q = clash-back (let none : is_some (kind_of b p) ≡ false = ap (λ (o : Option Record). is_some (option_map (λ (r : Record). r.kind) o)) q in sym none ∙ ap is_some its)
      go (Some r) q =
          let same : r.kind ≡ t = same_Some r.kind t (sym (ap (option_map (λ (x : Record). x.kind)) q) ∙ its) in
          let shape = subst (λ (k : TypeId). HasSlots k (slots_of k) r.slots) same (h.shape.shaped p r q).slots in
          subst (λ (o : Option Record). AllByRecursion (Inner t) (filter_map child_entry (option_map_or (λ (x : Record). x.slots) o []))) (sym q)
          (inner-entries t r.slots (has-all (IsRow t) (InnerIn t) t (row-inner t) (further-inner t e) (slots_of t) rows shape))

-- ---- what is described

-- an entry of a container, whose name is an id, and what it is of is wanted there
pub record Here (b : Board) (p : ℕ) (wanted : List ℕ) (e : List ℕ × ℕ) : Type 0 where
  pub there : has_entry e (child_entries b p) ≡ true
  pub id : is_id e.0 ≡ true
  pub kind : TypeId
  pub its : kind_of b e.1 ≡ Some kind
  pub concrete : is_abstract kind ≡ false
  pub wants : is_a kind wanted ≡ true

abbrev pub object_as : Board → List ℕ × ℕ → ObjectItem
object_as b e = object_of b e (unwrap_or (kind_of b e.1) Object)

abbrev pub device_as : Board → List ℕ × ℕ → DeviceItem
device_as b e = device_of b e (unwrap_or (kind_of b e.1) Object)

module _ (b : Board) (h : IsInOrder b) where
  here-all : (p : ℕ) (wanted : List ℕ) → AllByRecursion HasId (child_entries b p)
      → AllByRecursion (λ (e : List ℕ × ℕ). is_of b wanted e.1 ≡ true) (child_entries b p) → AllByRecursion (Here b p wanted) (child_entries b p)
  here-all p wanted ids are =
      all-imply (λ (e : List ℕ × ℕ). (has_entry e (child_entries b p) ≡ true) × (HasId e × (is_of b wanted e.1 ≡ true))) (Here b p wanted) one
      (child_entries b p)
      (all-both (λ (e : List ℕ × ℕ). has_entry e (child_entries b p) ≡ true) (λ (e : List ℕ × ℕ). HasId e × (is_of b wanted e.1 ≡ true))
      (child_entries b p) (all-here (child_entries b p)) (all-both HasId (λ (e : List ℕ × ℕ). is_of b wanted e.1 ≡ true) (child_entries b p) ids are))
    where
      one : (e : List ℕ × ℕ) → (has_entry e (child_entries b p) ≡ true) × (HasId e × (is_of b wanted e.1 ≡ true)) → Here b p wanted e
      one e k =
          let of : OfKind b wanted e.1 = of-kind b wanted e.1 k.1.1 in
          record { there = k.0; id = k.1.0; kind = of.kind; its = of.its; concrete = h.order.concrete e.1 of.kind of.its; wants = of.is }

  pub users : AllByRecursion (Here b OBJECTS_BIRTH (codes "user-creatable")) (child_entries b OBJECTS_BIRTH)
  users = here-all OBJECTS_BIRTH (codes "user-creatable") h.order.objects h.owners.objects

  pub devices : AllByRecursion (Here b PERIPHERAL_BIRTH (codes "device")) (child_entries b PERIPHERAL_BIRTH)
  devices =
      here-all PERIPHERAL_BIRTH (codes "device") h.order.devices
      (all-imply (IsPeripheral b) (λ (e : List ℕ × ℕ). is_of b (codes "device") e.1 ≡ true) (λ e k. k.device) (child_entries b PERIPHERAL_BIRTH)
      h.devices.places.1.peripheral)

  pub objects-said : (description b).objects ≡ map (object_as b) (child_entries b OBJECTS_BIRTH)
  objects-said =
      filter_map-all (object_item b) (object_as b) (child_entries b OBJECTS_BIRTH)
      (all-imply (Here b OBJECTS_BIRTH (codes "user-creatable")) (λ (e : List ℕ × ℕ). object_item b e ≡ Some (object_as b e))
      (λ e k. ap (option_map (object_of b e)) k.its ∙ ap (λ (o : Option TypeId). Some (object_of b e (unwrap_or o Object))) (sym k.its))
      (child_entries b OBJECTS_BIRTH) users)

  pub devices-said : (description b).devices ≡ map (device_as b) (child_entries b PERIPHERAL_BIRTH)
  devices-said =
      filter_map-all (device_item b) (device_as b) (child_entries b PERIPHERAL_BIRTH)
      (all-imply (Here b PERIPHERAL_BIRTH (codes "device")) (λ (e : List ℕ × ℕ). device_item b e ≡ Some (device_as b e))
      (λ e k. ap (option_map (device_of b e)) k.its ∙ ap (λ (o : Option TypeId). Some (device_of b e (unwrap_or o Object))) (sym k.its))
      (child_entries b PERIPHERAL_BIRTH) devices)

  -- the types of the objects that every machine begins with
  pub root-kind : kind_of b ROOT_BIRTH ≡ Some Container
  unfolding opening_board
  root-kind = h.shape.opening.0

  pub machine-kind : kind_of b MACHINE_BIRTH ≡ Some Machine
  unfolding opening_board
  machine-kind = h.shape.opening.1.0

  pub peripheral-kind : kind_of b PERIPHERAL_BIRTH ≡ Some Container
  unfolding opening_board
  peripheral-kind = h.shape.opening.1.1.0

  pub anonymous-kind : kind_of b ANONYMOUS_BIRTH ≡ Some Container
  unfolding opening_board
  anonymous-kind = h.shape.opening.1.1.1.0

  pub system-kind : kind_of b SYSTEM_CLOCK_BIRTH ≡ Some Clock
  unfolding opening_board
  system-kind = h.shape.opening.1.1.1.1.0

  pub root_bus-kind : kind_of b ROOT_BUS_BIRTH ≡ Some SlotBus
  unfolding opening_board
  root_bus-kind = h.shape.opening.1.1.1.1.1.0

  pub memory_bus-kind : kind_of b MEMORY_BUS_BIRTH ≡ Some MemBus
  unfolding opening_board
  memory_bus-kind = h.shape.opening.1.1.1.1.1.1.0

  pub objects-kind : kind_of b OBJECTS_BIRTH ≡ Some Container
  unfolding opening_board
  objects-kind = h.shape.opening.1.1.1.1.1.1.1.0

-- ---- what is at which path

has-clock : AllByRecursion (λ (t : TypeId). has_clock (type_name t) ≡ true) (SlotDevice ∷ SlotUart ∷ SlotTimer ∷ SlotBridge ∷ [])
unfolding types
has-clock = (refl, (refl, (refl, (refl, tt))))

pub part-device : (t : TypeId) → (parts_of t ≡ []) ⊎ (is_a t (codes "device") ≡ true)
unfolding types
part-device = each (λ (t : TypeId). (parts_of t ≡ []) ⊎ (is_a t (codes "device") ≡ true)) (search rules)

module _ (b : Board) (h : IsInOrder b) (says : is_describable b ≡ true) where
  abbrev d : Description
  d = description b

  live-of : (n : ℕ) (t : TypeId) → kind_of b n ≡ Some t → is_live b n ≡ true
  live-of n t its = go (record_of b n) refl
    where
      go : (o : Option Record) → record_of b n ≡ o → is_live b n ≡ true
      go None q = clash-back (let none : is_some (kind_of b n) ≡ false = ap (λ (o : Option Record). is_some (option_map (λ (r : Record). r.kind) o)) q in sym none ∙ ap is_some its)
      go (Some r) q = ap is_some q

  not_root : (n : ℕ) (t : TypeId) → kind_of b n ≡ Some t → is_shelf t ≡ false → (n == ROOT_BIRTH) ≡ false
  not_root n t its e =
      decide (n == ROOT_BIRTH)
      (λ q.
      let same : t ≡ Container = same_Some t Container (sym its ∙ ap (kind_of b) (eqb-true n ROOT_BIRTH q) ∙ root-kind b h) in
      clash (sym (ap is_shelf same) ∙ e))
      (λ q. q)

  -- each device has an id
  pub device-entry : (n : ℕ) (t : TypeId) → kind_of b n ≡ Some t → is_shelf t ≡ false → is_a t (codes "device") ≡ true
      → (id : List ℕ) × (has_entry (id, n) (child_entries b PERIPHERAL_BIRTH) ≡ true)
  device-entry n t its e is =
      let (u, place) = settled b h says n (live-of n t its) (not_root n t its e) in
      let home : IsAtHome b u.0 (u.1, n) = placed-at b h (λ p x. IsAtHome b p x) h.devices.places.1.children n u place in
      let of : is_of b (codes "device") n ≡ true = ap (λ (o : Option TypeId). option_map_or (λ (k : TypeId). is_a k (codes "device")) o false) its ∙ is in
      shelf u (place-there b h n u place) (home.device of)
    where
      shelf : (u : ℕ × List ℕ) → has_entry (u.1, n) (child_entries b u.0) ≡ true → among (PERIPHERAL_BIRTH ∷ ANONYMOUS_BIRTH ∷ []) u.0 ≡ true
          → (id : List ℕ) × (has_entry (id, n) (child_entries b PERIPHERAL_BIRTH) ≡ true)
      shelf u there k =
          decide (eqb u.0 PERIPHERAL_BIRTH)
          (λ q. (u.1, subst (λ (p : ℕ). has_entry (u.1, n) (child_entries b p) ≡ true) (eqb-true u.0 PERIPHERAL_BIRTH q) there))
          (λ q. decide (eqb u.0 ANONYMOUS_BIRTH)
          (λ r.
          let on : has_entry (u.1, n) (child_entries b ANONYMOUS_BIRTH) ≡ true =
          subst (λ (p : ℕ). has_entry (u.1, n) (child_entries b p) ≡ true) (eqb-true u.0 ANONYMOUS_BIRTH r) there in
          clash-back (sym (ap (has_entry (u.1, n)) (none-anonymous b h says)) ∙ on))
          (λ r. clash-back (rw (q, r) at k)))

  -- an object that every machine begins with
  first-there : (m : ℕ) (path : List ℕ) (k : TypeId) → path_text b m ≡ path → kind_of b m ≡ Some k
      → OneOf (λ (o : List ℕ × TypeId). (path ≡ o.0) × (k ≡ o.1)) first_objects → (n : ℕ) (t : TypeId) → m ≡ n → kind_of b n ≡ Some t → IsThere d (path_text b n) t
  first-there m path k told its among n t is kind =
      let same : t ≡ k = same_Some t k (sym kind ∙ ap (kind_of b) (sym is) ∙ its) in
      let way : path_text b n ≡ path = ap (path_text b) (sym is) ∙ told in
      first (subst (λ (u : TypeId). OneOf (λ (o : List ℕ × TypeId). (path_text b n ≡ o.0) × (u ≡ o.1)) first_objects) (sym same)
      (subst (λ (p : List ℕ). OneOf (λ (o : List ℕ × TypeId). (p ≡ o.0) × (k ≡ o.1)) first_objects) (sym way) among))

  module _ (n : ℕ) (t : TypeId) (its : kind_of b n ≡ Some t) where
    of-root : (name : List ℕ) → has_entry (name, n) (child_entries b ROOT_BIRTH) ≡ true → IsThere d (path_text b n) t
    of-root name there = go (one-entry (name, n) ((codes "machine", MACHINE_BIRTH) ∷ (codes "objects", OBJECTS_BIRTH) ∷ []) (sym (ap (has_entry (name, n)) (root-entries b h)) ∙ there))
      where
        go : OneOf (λ (x : List ℕ × ℕ). (x.0 ≡ name) × (x.1 ≡ n)) ((codes "machine", MACHINE_BIRTH) ∷ (codes "objects", OBJECTS_BIRTH) ∷ []) → IsThere d (path_text b n) t
        go (inl e) = first-there MACHINE_BIRTH (codes "/machine") Machine (told b h MACHINE_BIRTH (codes "/machine") refl (machine-way b h)) (machine-kind b h) (inr (inl (refl, refl))) n t e.1 its
        go (inr (inl e)) =
            first-there OBJECTS_BIRTH (codes "/objects") Container (told b h OBJECTS_BIRTH (codes "/objects") refl (objects-way b h)) (objects-kind b h)
            (inr (inr (inr (inr (inr (inr (inr (inl (refl, refl))))))))) n t e.1 its
        go (inr (inr e)) = absurd e

    abbrev machine_parts : List (List ℕ × ℕ)
    machine_parts =
        (codes "peripheral", PERIPHERAL_BIRTH) ∷ (codes "peripheral-anon", ANONYMOUS_BIRTH) ∷ (codes "sysclk", SYSTEM_CLOCK_BIRTH)
        ∷ (codes "root.0", ROOT_BUS_BIRTH)
        ∷ (codes "mem.0", MEMORY_BUS_BIRTH)
        ∷ []

    of-machine : (name : List ℕ) → has_entry (name, n) (child_entries b MACHINE_BIRTH) ≡ true → IsThere d (path_text b n) t
    of-machine name there = go (one-entry (name, n) machine_parts (sym (ap (has_entry (name, n)) (machine-entries b h)) ∙ there))
      where
        way : (m : ℕ) (part : List ℕ) → (m == ROOT_BIRTH) ≡ false → has_entry (part, m) machine_parts ≡ true → path_text b m ≡ codes "/machine/" ++ part
        way m part other on = told b h m (codes "/machine/" ++ part) other (part-way b h m part other on)

        go : OneOf (λ (x : List ℕ × ℕ). (x.0 ≡ name) × (x.1 ≡ n)) machine_parts → IsThere d (path_text b n) t
        go (inl e) =
            first-there PERIPHERAL_BIRTH (codes "/machine/peripheral") Container (way PERIPHERAL_BIRTH (codes "peripheral") refl refl) (peripheral-kind b h)
            (inr (inr (inl (refl, refl)))) n t e.1 its
        go (inr (inl e)) =
            first-there ANONYMOUS_BIRTH (codes "/machine/peripheral-anon") Container (way ANONYMOUS_BIRTH (codes "peripheral-anon") refl refl) (anonymous-kind b h)
            (inr (inr (inr (inl (refl, refl))))) n t e.1 its
        go (inr (inr (inl e))) =
            first-there SYSTEM_CLOCK_BIRTH (codes "/machine/sysclk") Clock (way SYSTEM_CLOCK_BIRTH (codes "sysclk") refl refl) (system-kind b h)
            (inr (inr (inr (inr (inl (refl, refl)))))) n t e.1 its
        go (inr (inr (inr (inl e)))) =
            first-there ROOT_BUS_BIRTH (codes "/machine/root.0") SlotBus (way ROOT_BUS_BIRTH (codes "root.0") refl refl) (root_bus-kind b h)
            (inr (inr (inr (inr (inr (inl (refl, refl))))))) n t e.1 its
        go (inr (inr (inr (inr (inl e))))) =
            first-there MEMORY_BUS_BIRTH (codes "/machine/mem.0") MemBus (way MEMORY_BUS_BIRTH (codes "mem.0") refl refl) (memory_bus-kind b h)
            (inr (inr (inr (inr (inr (inr (inl (refl, refl)))))))) n t e.1 its
        go (inr (inr (inr (inr (inr e))))) = absurd e

    kind-at : (x : List ℕ × ℕ) → x.1 ≡ n → unwrap_or (kind_of b x.1) Object ≡ t
    kind-at x is = ap (λ (o : Option TypeId). unwrap_or o Object) (ap (kind_of b) is ∙ its)

    of-objects : (name : List ℕ) → (n == ROOT_BIRTH) ≡ false → has_entry (name, n) (child_entries b OBJECTS_BIRTH) ≡ true → IsThere d (path_text b n) t
    of-objects name other there =
        let way : path_text b n ≡ object_path name = told b h n (object_path name) other (object-way b h n name there) in
        object (subst (OneOf (λ (o : ObjectItem). (path_text b n ≡ object_path o.id) × (o.kind ≡ type_name t))) (sym (objects-said b h))
        (one-map (λ (x : List ℕ × ℕ). (x.0 ≡ name) × (x.1 ≡ n)) (λ (o : ObjectItem). (path_text b n ≡ object_path o.id) × (o.kind ≡ type_name t)) (object_as b)
        (λ x e. (way ∙ ap object_path (sym e.0), ap type_name (kind-at x e.1))) (child_entries b OBJECTS_BIRTH) (one-entry (name, n) (child_entries b OBJECTS_BIRTH) there)))

    of-peripheral : (name : List ℕ) → (n == ROOT_BIRTH) ≡ false → has_entry (name, n) (child_entries b PERIPHERAL_BIRTH) ≡ true → IsThere d (path_text b n) t
    of-peripheral name other there =
        let way : path_text b n ≡ device_path name = told b h n (device_path name) other (device-way b h n name there) in
        device (subst (OneOf (λ (x : DeviceItem). (path_text b n ≡ device_path x.id) × (x.driver ≡ type_name t))) (sym (devices-said b h))
        (one-map (λ (x : List ℕ × ℕ). (x.0 ≡ name) × (x.1 ≡ n)) (λ (x : DeviceItem). (path_text b n ≡ device_path x.id) × (x.driver ≡ type_name t)) (device_as b)
        (λ x e. (way ∙ ap device_path (sym e.0), ap type_name (kind-at x e.1))) (child_entries b PERIPHERAL_BIRTH) (one-entry (name, n) (child_entries b PERIPHERAL_BIRTH) there)))

    -- a part of a device
    module _ (p : ℕ) (id : List ℕ) (k : TypeId) (kind : kind_of b p ≡ Some k) (owner : has_entry (id, p) (child_entries b PERIPHERAL_BIRTH) ≡ true)
        (other : (n == ROOT_BIRTH) ≡ false) where
      owner-said : (Q : DeviceItem → Type 0) → ((x : List ℕ × ℕ) → x.0 ≡ id → device_of b x k ≡ device_as b x → Q (device_as b x)) → OneOf Q d.devices
      owner-said Q from =
          subst (OneOf Q) (sym (devices-said b h))
          (one-map (λ (x : List ℕ × ℕ). (x.0 ≡ id) × (x.1 ≡ p)) Q (device_as b)
          (λ x e. from x e.0 (ap (device_of b x) (sym (ap (λ (o : Option TypeId). unwrap_or o Object) (ap (kind_of b) e.1 ∙ kind))))) (child_entries b PERIPHERAL_BIRTH)
          (one-entry (id, p) (child_entries b PERIPHERAL_BIRTH) owner))

      way : (name : List ℕ) → has_entry (name, n) (child_entries b p) ≡ true → path_text b n ≡ device_path id ++ 47 ∷ name
      way name there = told b h n (device_path id ++ 47 ∷ name) other (inner-way b h p n id name owner there)

      as-clock : has_clock (type_name k) ≡ true → (name : List ℕ) → has_entry (name, n) (child_entries b p) ≡ true → codes "clk" ≡ name
          → kind_of b n ≡ Some Clock → IsThere d (path_text b n) t
      as-clock has name there named at =
          let path : path_text b n ≡ clock_path id = way name there ∙ ap (λ (x : List ℕ). device_path id ++ 47 ∷ x) (sym named) in
          clock (owner-said (λ (x : DeviceItem). (path_text b n ≡ clock_path x.id) × (has_clock x.driver ≡ true))
          (λ x is same. (path ∙ ap clock_path (sym is), sym (ap (λ (y : DeviceItem). has_clock y.driver) same) ∙ has)))
          (same_Some t Clock (sym its ∙ at))

      as-bus : k ≡ SlotBridge → (name : List ℕ) → has_entry (name, n) (child_entries b p) ≡ true → codes "bus.0" ≡ name → kind_of b n ≡ Some SlotBus
          → IsThere d (path_text b n) t
      as-bus is_bridge name there named at =
          let path : path_text b n ≡ bus_path id = way name there ∙ ap (λ (x : List ℕ). device_path id ++ 47 ∷ x) (sym named) in
          bus (owner-said (λ (x : DeviceItem). (path_text b n ≡ bus_path x.id) × (x.driver ≡ type_name SlotBridge))
          (λ x is same. (path ∙ ap bus_path (sym is), sym (ap (λ (y : DeviceItem). y.driver) same) ∙ ap type_name is_bridge)))
          (same_Some t SlotBus (sym its ∙ at))

    of-device : (p : ℕ) (name : List ℕ) (k : TypeId) → kind_of b p ≡ Some k → is_shelf k ≡ false → (n == ROOT_BIRTH) ≡ false
        → has_entry (name, n) (child_entries b p) ≡ true → IsThere d (path_text b n) t
    of-device p name k kind e other there =
        by k kind e (all-entry (IsInner b k) (name, n) (child_entries b p) (inner b h p k kind e) there)
      where
        entry : (u : TypeId) → kind_of b p ≡ Some u → is_shelf u ≡ false → (is_a u (codes "device") ≡ true)
            → (id : List ℕ) × (has_entry (id, p) (child_entries b PERIPHERAL_BIRTH) ≡ true)
        entry u at q is = device-entry p u at q is

        owned : (u : TypeId) → kind_of b p ≡ Some u → is_shelf u ≡ false → (parts_of u ≡ []) ⊎ (is_a u (codes "device") ≡ true)
            → OneOf (λ (f : List ℕ × TypeId). (f.0 ≡ name) × (kind_of b n ≡ Some f.1)) (parts_of u)
            → (id : List ℕ) × (has_entry (id, p) (child_entries b PERIPHERAL_BIRTH) ≡ true)
        owned u at q (inl none) one = absurd (subst (OneOf (λ (f : List ℕ × TypeId). (f.0 ≡ name) × (kind_of b n ≡ Some f.1))) none one)
        owned u at q (inr is) one = entry u at q is

        by : (u : TypeId) → kind_of b p ≡ Some u → is_shelf u ≡ false
            → OneOf (λ (f : List ℕ × TypeId). (f.0 ≡ name) × (kind_of b n ≡ Some f.1)) (parts_of u) → IsThere d (path_text b n) t
        by SlotDevice at q (inl f) =
            let (id, own) = owned SlotDevice at q (part-device SlotDevice) (inl f) in as-clock p id SlotDevice at own other has-clock.0 name there f.0 f.1
        by SlotUart at q (inl f) =
            let (id, own) = owned SlotUart at q (part-device SlotUart) (inl f) in as-clock p id SlotUart at own other has-clock.1.0 name there f.0 f.1
        by SlotTimer at q (inl f) =
            let (id, own) = owned SlotTimer at q (part-device SlotTimer) (inl f) in as-clock p id SlotTimer at own other has-clock.1.1.0 name there f.0 f.1
        by SlotBridge at q (inl f) =
            let (id, own) = owned SlotBridge at q (part-device SlotBridge) (inl f) in
            as-clock p id SlotBridge at own other has-clock.1.1.1.0 name there f.0 f.1
        by SlotBridge at q (inr (inl f)) =
            let (id, own) = owned SlotBridge at q (part-device SlotBridge) (inr (inl f)) in as-bus p id SlotBridge at own other refl name there f.0 f.1
        by SlotBridge at q (inr (inr f)) = absurd f
        by SlotDevice at q (inr f) = absurd f
        by SlotUart at q (inr f) = absurd f
        by SlotTimer at q (inr f) = absurd f
        by u at q f = absurd f

    of-shelf : (p : ℕ) (name : List ℕ) (k : TypeId) → kind_of b p ≡ Some k → is_shelf k ≡ true → (n == ROOT_BIRTH) ≡ false
        → has_entry (name, n) (child_entries b p) ≡ true → IsThere d (path_text b n) t
    of-shelf p name Machine kind e other there = of-machine name (subst (λ (q : ℕ). has_entry (name, n) (child_entries b q) ≡ true) (h.owners.lone p kind) there)
    of-shelf p name Container kind e other there = go (h.owners.shelves p kind)
      where
        on : (q : ℕ) → eqb p q ≡ true → has_entry (name, n) (child_entries b q) ≡ true
        on q same = subst (λ (m : ℕ). has_entry (name, n) (child_entries b m) ≡ true) (eqb-true p q same) there

        go : among containers p ≡ true → IsThere d (path_text b n) t
        go k =
            decide (eqb p ROOT_BIRTH) (λ q. of-root name (on ROOT_BIRTH q))
            (λ q. decide (eqb p PERIPHERAL_BIRTH) (λ r. of-peripheral name other (on PERIPHERAL_BIRTH r))
            (λ r. decide (eqb p ANONYMOUS_BIRTH)
            (λ v. clash-back (sym (ap (has_entry (name, n)) (none-anonymous b h says)) ∙ on ANONYMOUS_BIRTH v))
            (λ v. decide (eqb p OBJECTS_BIRTH) (λ w. of-objects name other (on OBJECTS_BIRTH w)) (λ w. clash-back (rw (q, r, v, w) at k)))))
    of-shelf p name k kind e other there = clash-back e

    -- an object that is there is at its path
    pub there : IsThere d (path_text b n) t
    there = decide (n == ROOT_BIRTH) root other
      where
        root : (n == ROOT_BIRTH) ≡ true → IsThere d (path_text b n) t
        root q = first-there ROOT_BIRTH (codes "/") Container refl (root-kind b h) (inl (refl, refl)) n t (sym (eqb-true n ROOT_BIRTH q)) its

        other : (n == ROOT_BIRTH) ≡ false → IsThere d (path_text b n) t
        other q =
            let (u, place) = settled b h says n (live-of n t its) q in
            let on : has_entry (u.1, n) (child_entries b u.0) ≡ true = place-there b h n u place in
            at_owner u on (kind_of b u.0) refl
          where
            at_owner : (u : ℕ × List ℕ) → has_entry (u.1, n) (child_entries b u.0) ≡ true → (o : Option TypeId) → kind_of b u.0 ≡ o → IsThere d (path_text b n) t
            at_owner u on None r = clash-back (sym (no-entries u r) ∙ on)
              where
                no-entries : (u : ℕ × List ℕ) → kind_of b u.0 ≡ None → has_entry (u.1, n) (child_entries b u.0) ≡ false
                no-entries u r = bare (record_of b u.0) refl
                  where
                    bare : (o : Option Record) → record_of b u.0 ≡ o → has_entry (u.1, n) (child_entries b u.0) ≡ false
                    bare None v = rw v refl
                    bare (Some x) v = absurd (let clash : Some x.kind ≡ None = sym (ap (option_map (λ (y : Record). y.kind)) v) ∙ r in cc)
            at_owner u on (Some k) r = decide (is_shelf k) (λ v. of-shelf u.0 u.1 k r v q on) (λ v. of-device u.0 u.1 k r v q on)
