-- The links of a description are good, and its ids are of one thing each.
use Rattle.std.proofs.Common.{◌≡◌, refl, ap, ap₂, sym, subst, ◌∙◌, rules, ℕ, Bool, true, false, ◌&&◌, List, [], ◌∷◌, ◌++◌, filter_map, map, Option, Some, None, option_map, option_and_then, unwrap_or, codes, arith}
use Rattle.qo_model.proofs.Common.{AllByRecursion, IsDistinct, if◌then◌else◌, option_map_or, bytes_eq, type_name, OBJECTS_BIRTH, PERIPHERAL_BIRTH, TypeId, Container, Object, Board, Record, Slot, plain, child, strong, weak, alias, kind_of, slots_at, target_of, may_set, property_named, is_a, slots_of, types}
use Rattle.std.proofs.lemmas.Bool.{and_parts}
use Rattle.std.proofs.lemmas.List.Concat.{flat_map-append}
use Rattle.std.proofs.lemmas.Option.{same_Some}
use Rattle.std.specs.List.{flat_map}
use Rattle.qo_values.proofs.EachLemmas.{each}
use Rattle.qo_values.proofs.ListLemmas.{all-imply}
use Rattle.qo_values.specs.declared.properties.PropType.TheVariants as ty
use Rattle.qo_model.specs.Properties.{path_text}
use Rattle.qo_model.specs.Types.{property, TypeInfo, type_named}
use Rattle.qo_model.specs.declared.properties.Access.TheVariants.{Never}
use Rattle.qo_model.specs.declared.properties.First.TheVariants as begins
use Rattle.qo_model.specs.declared.properties.Property.{Property}
use Rattle.qo_model.specs.declared.properties.PropertyName.TheVariants as prop
use Rattle.qo_model.specs.declared.properties.PropertyRole.{PropertyRole}
use Rattle.qo_model.specs.declared.properties.PropertyRole.TheVariants as row
use Rattle.qo_save.specs.Described.{description, is_describable, is_link, is_set, link_item, link_items, link_to}
use Rattle.qo_save.specs.Description.{Description, DeviceItem, LinkItem, ObjectItem}
use Rattle.qo_sound.proofs.FirmBoardLemmas.{FitsKind, Linked}
use Rattle.qo_sound.proofs.SlotLemmas.{names_in}
use Rattle.qo_sound.proofs.TestLemmas.{clash-back}
use Rattle.qo_sound_devices.specs.SoundPlaces.{child_entries, child_entry}
use Rattle.qo_sound_devices.proofs.DropLemmas.{names-at}
use Rattle.qo_sound_devices.proofs.PlacesLemmas.{linked-at}
use Rattle.qo_sound_shapes.specs.SoundShape.{further, HasRole, HasSlots, IsFurther, IsOfProperty, missing, next}
use Rattle.qo_sound_shapes.proofs.RowLemmas.{IsRowOf, own-rows}
use Rattle.qo_ways.specs.Ways.{IsInOrder}
use Rattle.qo_good.specs.Good.{AreIds, device_path, Give, gives, IsLinkOf, none, object_path, passed, rows, rows_of}
use Rattle.qo_good.proofs.ItemLemmas.{give-append}
use Rattle.qo_good.proofs.PartLemmas.{device_as, devices, devices-said, Here, object_as, objects-kind, objects-said, peripheral-kind, there, users}
use Rattle.qo_good.proofs.PlaceLemmas.{apart, device-way, firm, object-way, told}
use Rattle.qo_good.proofs.ValueLemmas.{Its, its-record}

-- ---- lists

give-each : {E X Y : Type 0} (R : X → Y → Type 0) (f : E → List X) (g : E → List Y) (es : List E) → AllByRecursion (λ (e : E). Give R (f e) (g e)) es
    → Give R (flat_map f es) (flat_map g es)
give-each R f g [] h = none
give-each R f g (e ∷ es) h = give-append R h.0 (give-each R f g es h.1)

said-on : {Y : Type 0} (t : Bool) (o : Option Y) (y : Y) → (if t then o else None) ≡ Some y → (t ≡ true) × (o ≡ Some y)
said-on true o y e = (refl, e)
said-on false o y e = absurd (cc)

-- ---- rows

pub rows-named : (t : TypeId) → option_map_or (λ (r : TypeInfo). slots_of r.id) (type_named (type_name t)) [] ≡ slots_of t
unfolding types
rows-named = each (λ (t : TypeId). option_map_or (λ (r : TypeInfo). slots_of r.id) (type_named (type_name t)) [] ≡ slots_of t) (search rules)

abbrev IsBare : TypeId → Type 0
IsBare t = (s : List ℕ × Slot) → IsFurther t s → ⊥

pub bare-device : (t : TypeId) → is_a t (codes "device") ≡ true → IsBare t
unfolding types
bare-device = each (λ (t : TypeId). is_a t (codes "device") ≡ true → (s : List ℕ × Slot) → IsFurther t s → ⊥) (search rules)

pub bare-creatable : (t : TypeId) → is_a t (codes "user-creatable") ≡ true → IsBare t
unfolding types
bare-creatable = each (λ (t : TypeId). is_a t (codes "user-creatable") ≡ true → (s : List ℕ × Slot) → IsFurther t s → ⊥) (search rules)

role-strong : (r : PropertyRole) (to : TypeId) (target : Option ℕ) → HasRole r (strong to target) → r ≡ row.Link to true
role-strong (row.Link t true) to target h = ap (λ (x : TypeId). row.Link x true) (sym h)
role-strong (row.Link t false) to target h = absurd h
role-strong (row.Plain type first) to target h = absurd h
role-strong (row.Child type) to target h = absurd h
role-strong (row.Alias owner of) to target h = absurd h

role-weak : (r : PropertyRole) (to : TypeId) (target : Option ℕ) → HasRole r (weak to target) → r ≡ row.Link to false
role-weak (row.Link t false) to target h = ap (λ (x : TypeId). row.Link x false) (sym h)
role-weak (row.Link t true) to target h = absurd h
role-weak (row.Plain type first) to target h = absurd h
role-weak (row.Child type) to target h = absurd h
role-weak (row.Alias owner of) to target h = absurd h

-- ---- the links of one object

module _ (b : Board) (h : IsInOrder b) (says : is_describable b ≡ true) where
  abbrev d : Description
  d = description b

  module _ (n : ℕ) (t : TypeId) (kind : kind_of b n ≡ Some t) (path : List ℕ) (at : path_text b n ≡ path) (bare : IsBare t) where
    -- the target of a link, and the row
    record Target (p : Property) (m : ℕ) : Type 0 where
      to : TypeId
      holds : Bool
      role : p.role ≡ row.Link to holds
      its : TypeId
      found : kind_of b m ≡ Some its
      fits : is_a its (type_name to) ≡ true

    fits-kind : (to : TypeId) (m : ℕ) → FitsKind (kind_of b) to (Some m) → (its : TypeId) × ((kind_of b m ≡ Some its) × (is_a its (type_name to) ≡ true))
    fits-kind to m fits = go (kind_of b m) refl
      where
        go : (o : Option TypeId) → kind_of b m ≡ o → (its : TypeId) × ((kind_of b m ≡ Some its) × (is_a its (type_name to) ≡ true))
        go None q = clash-back (sym (ap (λ (o : Option TypeId). option_map_or (λ (k : TypeId). is_a k (type_name to)) o false) q) ∙ fits)
        go (Some k) q = (k, (q, sym (ap (λ (o : Option TypeId). option_map_or (λ (k : TypeId). is_a k (type_name to)) o false) q) ∙ fits))

    target : (p : Property) (m : ℕ) (s : Slot) → target_of s ≡ Some m → is_link s ≡ true → HasRole p.role s → Linked (kind_of b) s → Target p m
    target p m (plain v) e is fits linked = clash-back is
    target p m (child k) e is fits linked = clash-back is
    target p m (alias k of) e is fits linked = clash-back is
    target p m (strong to o) e is fits linked =
        let (its, (found, of)) = fits-kind to m (subst (FitsKind (kind_of b) to) e linked) in
        record { to = to; holds = true; role = role-strong p.role to o fits; its = its; found = found; fits = of }
    target p m (weak to o) e is fits linked =
        let (its, (found, of)) = fits-kind to m (subst (FitsKind (kind_of b) to) e linked) in
        record { to = to; holds = false; role = role-weak p.role to o fits; its = its; found = found; fits = of }

    link-good : (p : Property) (s : List ℕ × Slot) (y : LinkItem) → IsRowOf t p → IsOfProperty p s → Linked (kind_of b) s.1 → link_item b n s ≡ Some y
        → IsLinkOf d (path, p) y
    link-good p s y own is linked e =
        let on = said-on (is_link s.1 && is_set b n s.0) (option_map (link_to b n s.0) (target_of s.1)) y e in
        let two = and_parts (is_link s.1) (is_set b n s.0) on.0 in
        go (target_of s.1) refl on.1 two.0 two.1
      where
        go : (o : Option ℕ) → target_of s.1 ≡ o → option_map (link_to b n s.0) o ≡ Some y → is_link s.1 ≡ true → is_set b n s.0 ≡ true → IsLinkOf d (path, p) y
        go None q f links set = absurd (cc)
        go (Some m) q f links set =
            let g : Target p m = target p m s.1 q links is.fits linked in
            let row_set : may_set p.access ≡ true =
            sym (ap (λ (o : Option Property). option_map_or (λ (x : Property). may_set x.access) o false) (ap (property_named t) is.name ∙ own))
            ∙ sym (ap (λ (o : Option TypeId). option_map_or (λ (x : Property). may_set x.access) (option_and_then (λ (k : TypeId). property_named k s.0) o) false) kind)
            ∙ set in
            subst (IsLinkOf d (path, p)) (same_Some (link_to b n s.0 m) y f)
            (record {
              path = at;
              property = is.name;
              set = row_set;
              target = g.to;
              holds = g.holds;
              role = g.role;
              kind = g.its;
              there = there b h says m g.its g.found;
              fits = g.fits;
            })

    none-bare : (slots : List (List ℕ × Slot)) → AllByRecursion (IsFurther t) slots → Give (IsLinkOf d) [] (filter_map (link_item b n) slots)
    none-bare [] all = none
    none-bare (s ∷ slots) all = absurd (bare s all.0)

    abbrev placed : List Property → List (List ℕ × Property)
    placed ps = map (λ (p : Property). (path, p)) ps

    give-slots : (ps : List Property) → AllByRecursion (IsRowOf t) ps → {slots : List (List ℕ × Slot)} → HasSlots t ps slots
        → AllByRecursion (λ (s : List ℕ × Slot). Linked (kind_of b) s.1) slots → Give (IsLinkOf d) (placed ps) (filter_map (link_item b n) slots)
    give-slots [] own (further {slots} all) linked = none-bare slots all
    give-slots (p ∷ ps) own (missing may rest) linked = passed (give-slots ps own.1 rest linked)
    give-slots (p ∷ ps) own (next {s = s} {slots = slots} is rest) linked = go (link_item b n s) refl (give-slots ps own.1 rest linked.1)
      where
        go : (o : Option LinkItem) → link_item b n s ≡ o → Give (IsLinkOf d) (placed ps) (filter_map (link_item b n) slots)
            → Give (IsLinkOf d) (placed (p ∷ ps)) (filter_map (link_item b n) (s ∷ slots))
        go None q more =
            let is_said : filter_map (link_item b n) (s ∷ slots) ≡ filter_map (link_item b n) slots = rw q refl in
            subst (Give (IsLinkOf d) (placed (p ∷ ps))) (sym is_said) (passed more)
        go (Some y) q more =
            let is_said : filter_map (link_item b n) (s ∷ slots) ≡ y ∷ filter_map (link_item b n) slots = rw q refl in
            subst (Give (IsLinkOf d) (placed (p ∷ ps))) (sym is_said) (gives (link-good p s y own.0 is linked.0 q) more)

    give-object : Give (IsLinkOf d) (placed (slots_of t)) (filter_map (link_item b n) (slots_at b n))
    give-object =
        let its : Its b n t = its-record b h.shape n t kind in
        let slots : slots_at b n ≡ its.of.slots = ap (λ (o : Option Record). option_map_or (λ (r : Record). r.slots) o []) its.there in
        subst (λ (xs : List (List ℕ × Slot)). Give (IsLinkOf d) (placed (slots_of t)) (filter_map (link_item b n) xs)) (sym slots)
        (give-slots (slots_of t) (own-rows t) its.slots
        (subst (AllByRecursion (λ (s : List ℕ × Slot). Linked (kind_of b) s.1)) slots (linked-at b (firm b h) n)))

  -- ---- the links of all

  abbrev object_owner : ObjectItem → List ℕ × List ℕ
  object_owner o = (object_path o.id, o.kind)

  abbrev device_owner : DeviceItem → List ℕ × List ℕ
  device_owner x = (device_path x.id, x.driver)

  rows-said : (path : List ℕ) (e : List ℕ × ℕ) (t : TypeId) → kind_of b e.1 ≡ Some t
      → rows_of (path, type_name (unwrap_or (kind_of b e.1) Object)) ≡ map (λ (p : Property). (path, p)) (slots_of t)
  rows-said path e t kind =
      ap (map (λ (p : Property). (path, p)))
      (ap (λ (o : Option TypeId). option_map_or (λ (r : TypeInfo). slots_of r.id) (type_named (type_name (unwrap_or o Object))) []) kind ∙ rows-named t)

  objects-give : AllByRecursion (λ (e : List ℕ × ℕ). Give (IsLinkOf d) (rows_of (object_owner (object_as b e))) (link_items b e)) (child_entries b OBJECTS_BIRTH)
  objects-give =
      all-imply (Here b OBJECTS_BIRTH (codes "user-creatable"))
      (λ (e : List ℕ × ℕ). Give (IsLinkOf d) (rows_of (object_owner (object_as b e))) (link_items b e)) (λ e k.
      subst (λ (xs : List (List ℕ × Property)). Give (IsLinkOf d) xs (link_items b e)) (sym (rows-said (object_path e.0) e k.kind k.its))
      (give-object e.1 k.kind k.its (object_path e.0)
      (told b h e.1 (object_path e.0) (apart b h OBJECTS_BIRTH e (omega arith) k.there) (object-way b h e.1 e.0 k.there)) (bare-creatable k.kind k.wants)))
      (child_entries b OBJECTS_BIRTH) (users b h)

  devices-give : AllByRecursion (λ (e : List ℕ × ℕ). Give (IsLinkOf d) (rows_of (device_owner (device_as b e))) (link_items b e)) (child_entries b PERIPHERAL_BIRTH)
  devices-give =
      all-imply (Here b PERIPHERAL_BIRTH (codes "device"))
      (λ (e : List ℕ × ℕ). Give (IsLinkOf d) (rows_of (device_owner (device_as b e))) (link_items b e)) (λ e k.
      subst (λ (xs : List (List ℕ × Property)). Give (IsLinkOf d) xs (link_items b e)) (sym (rows-said (device_path e.0) e k.kind k.its))
      (give-object e.1 k.kind k.its (device_path e.0)
      (told b h e.1 (device_path e.0) (apart b h PERIPHERAL_BIRTH e (omega arith) k.there) (device-way b h e.1 e.0 k.there)) (bare-device k.kind k.wants)))
      (child_entries b PERIPHERAL_BIRTH) (devices b h)

  rows-flat : rows d
      ≡ flat_map (λ (e : List ℕ × ℕ). rows_of (object_owner (object_as b e))) (child_entries b OBJECTS_BIRTH)
      ++ flat_map (λ (e : List ℕ × ℕ). rows_of (device_owner (device_as b e))) (child_entries b PERIPHERAL_BIRTH)
  rows-flat =
      flat_map-append rows_of (map object_owner d.objects) (map device_owner d.devices)
      ∙ ap₂ (λ (xs ys : List (List ℕ × Property)). xs ++ ys)
      (ap (λ (os : List ObjectItem). flat_map rows_of (map object_owner os)) (objects-said b h)
      ∙ flat-twice rows_of object_owner (object_as b) (child_entries b OBJECTS_BIRTH))
      (ap (λ (xs : List DeviceItem). flat_map rows_of (map device_owner xs)) (devices-said b h)
      ∙ flat-twice rows_of device_owner (device_as b) (child_entries b PERIPHERAL_BIRTH))
    where
      flat-twice : {E X Y Z : Type 0} (f : Y → List Z) (g : X → Y) (k : E → X) (es : List E) → flat_map f (map g (map k es)) ≡ flat_map (λ (e : E). f (g (k e))) es
      flat-twice f g k [] = refl
      flat-twice f g k (e ∷ es) = ap (λ zs. f (g (k e)) ++ zs) (flat-twice f g k es)

  pub links-good : Give (IsLinkOf d) (rows d) d.links
  links-good =
      subst (λ (xs : List (List ℕ × Property)). Give (IsLinkOf d) xs d.links) (sym rows-flat)
      (subst (Give (IsLinkOf d)
      (flat_map (λ (e : List ℕ × ℕ). rows_of (object_owner (object_as b e))) (child_entries b OBJECTS_BIRTH)
      ++ flat_map (λ (e : List ℕ × ℕ). rows_of (device_owner (device_as b e))) (child_entries b PERIPHERAL_BIRTH)))
      (sym (flat_map-append (link_items b) (child_entries b OBJECTS_BIRTH) (child_entries b PERIPHERAL_BIRTH)))
      (give-append (IsLinkOf d)
      (give-each (IsLinkOf d) (λ (e : List ℕ × ℕ). rows_of (object_owner (object_as b e))) (link_items b) (child_entries b OBJECTS_BIRTH) objects-give)
      (give-each (IsLinkOf d) (λ (e : List ℕ × ℕ). rows_of (device_owner (device_as b e))) (link_items b) (child_entries b PERIPHERAL_BIRTH) devices-give)))

-- ---- ids

abbrev pub ids_in : List (List ℕ × ℕ) → List (List ℕ)
ids_in es = map (λ (e : List ℕ × ℕ). e.0) es

pub entries-all : (P : List ℕ → Type 0) (slots : List (List ℕ × Slot)) → AllByRecursion P (names_in slots) → AllByRecursion P (ids_in (filter_map child_entry slots))
entries-all P [] h = tt
entries-all P ((name, plain v) ∷ slots) h = entries-all P slots h.1
entries-all P ((name, child m) ∷ slots) h = (h.0, entries-all P slots h.1)
entries-all P ((name, strong t target) ∷ slots) h = entries-all P slots h.1
entries-all P ((name, weak t target) ∷ slots) h = entries-all P slots h.1
entries-all P ((name, alias m of) ∷ slots) h = entries-all P slots h.1

pub entries-distinct : (slots : List (List ℕ × Slot)) → IsDistinct bytes_eq (names_in slots) → IsDistinct bytes_eq (ids_in (filter_map child_entry slots))
unfolding IsDistinct
entries-distinct [] h = tt
entries-distinct ((name, plain v) ∷ slots) h = entries-distinct slots h.1
entries-distinct ((name, child m) ∷ slots) h = (entries-all (λ (y : List ℕ). bytes_eq name y ≡ false) slots h.0, entries-distinct slots h.1)
entries-distinct ((name, strong t target) ∷ slots) h = entries-distinct slots h.1
entries-distinct ((name, weak t target) ∷ slots) h = entries-distinct slots h.1
entries-distinct ((name, alias m of) ∷ slots) h = entries-distinct slots h.1

abbrev pub type_row : Property
type_row = property prop.Type (row.Plain ty.Text begins.TypeName) Never

pub container-rows : slots_of Container ≡ type_row ∷ []
unfolding types
container-rows = refl

typed-distinct : (slots : List (List ℕ × Slot)) → HasSlots Container (type_row ∷ []) slots → IsDistinct bytes_eq (names_in slots)
    → IsDistinct bytes_eq (codes "type" ∷ ids_in (filter_map child_entry slots))
unfolding IsDistinct
typed-distinct slots (missing may rest) h = clash-back may
typed-distinct ((name, plain v) ∷ slots) (next is rest) h = (
  subst (λ (x : List ℕ). AllByRecursion (λ (y : List ℕ). bytes_eq x y ≡ false) (ids_in (filter_map child_entry slots))) is.name
      (entries-all (λ (y : List ℕ). bytes_eq name y ≡ false) slots h.0),
  entries-distinct slots h.1,
)
typed-distinct ((name, child m) ∷ slots) (next is rest) h = absurd is.fits
typed-distinct ((name, strong t target) ∷ slots) (next is rest) h = absurd is.fits
typed-distinct ((name, weak t target) ∷ slots) (next is rest) h = absurd is.fits
typed-distinct ((name, alias m of) ∷ slots) (next is rest) h = absurd is.fits

shelf-ids : (b : Board) → IsInOrder b → (n : ℕ) → kind_of b n ≡ Some Container → AreIds (ids_in (child_entries b n))
shelf-ids b h n kind =
    let its : Its b n Container = its-record b h.shape n Container kind in
    subst (λ (o : Option Record). AreIds (ids_in (filter_map child_entry (option_map_or (λ (r : Record). r.slots) o [])))) (sym its.there)
    (typed-distinct its.of.slots (subst (λ (ps : List Property). HasSlots Container ps its.of.slots) container-rows its.slots)
    (names-at b (firm b h) n its.of its.there))

pub ids-mapped : {X : Type 0} (make : List ℕ × ℕ → X) (id : X → List ℕ) → ((e : List ℕ × ℕ) → id (make e) ≡ e.0) → (es : List (List ℕ × ℕ))
    → map id (map make es) ≡ ids_in es
ids-mapped make id same [] = refl
ids-mapped make id same (e ∷ es) = ap₂ (λ (x : List ℕ) (xs : List (List ℕ)). x ∷ xs) (same e) (ids-mapped make id same es)

pub object_ids-good : (b : Board) → IsInOrder b → AreIds (map (λ (o : ObjectItem). o.id) (description b).objects)
object_ids-good b h =
    subst AreIds
    (sym (ap (map (λ (o : ObjectItem). o.id)) (objects-said b h) ∙ ids-mapped (object_as b) (λ (o : ObjectItem). o.id) (λ e. refl) (child_entries b OBJECTS_BIRTH)))
    (shelf-ids b h OBJECTS_BIRTH (objects-kind b h))

pub device_ids-good : (b : Board) → IsInOrder b → AreIds (map (λ (x : DeviceItem). x.id) (description b).devices)
device_ids-good b h =
    subst AreIds
    (sym (ap (map (λ (x : DeviceItem). x.id)) (devices-said b h)
    ∙ ids-mapped (device_as b) (λ (x : DeviceItem). x.id) (λ e. refl) (child_entries b PERIPHERAL_BIRTH)))
    (shelf-ids b h PERIPHERAL_BIRTH (peripheral-kind b h))
