-- The links that a board tells, row by row of its users' objects and devices.
use Rattle.std.proofs.Common.{◌≡◌, ◌⊎◌, inl, inr, refl, ap, ap₂, sym, subst, ◌∙◌, rules, ℕ, ◌<◌, ◌&&◌, Bool, true, false, List, [], ◌∷◌, ◌++◌, filter_map, map, Option, Some, None, option_map, option_and_then, unwrap_or, codes, arith}
use Rattle.std.specs.List.{flat_map}
use Rattle.std.proofs.lemmas.Grind.{flat_map-append}
use Rattle.std.proofs.lemmas.List.{map-append}
use Rattle.std.proofs.lemmas.List.Elements.{filter_map-append}
use Rattle.std.proofs.lemmas.Option.{same_Some}
use Rattle.std.proofs.lemmas.Slice.Eq.{bytes_eq-Decides}
use Rattle.qo_model.proofs.Common.{AllByRecursion, IsDistinct, option_map_or, if◌then◌else◌, bytes_eq, type_name, OBJECTS_BIRTH, PERIPHERAL_BIRTH, TypeId, Object, Board, Record, Slot, kind_of, slots_at, target_of, place_of, may_set, property_name, property_named, is_a, slots_of, types, TypeInfo, type_named}
use Rattle.qo_values.proofs.EachLemmas.{each}
use Rattle.qo_values.proofs.ListLemmas.{all-imply}
use Rattle.qo_model.proofs.FirstSlotLemmas.{named_in}
use Rattle.qo_model.specs.Properties.{path_text}
use Rattle.qo_model.specs.SoundGraph.{Rises}
use Rattle.qo_model.specs.declared.properties.Property.{Property}
use Rattle.qo_save.specs.Described.{description, is_link, is_set, link_item, link_items, link_to}
use Rattle.qo_save.specs.Description.{DeviceItem, LinkItem, ObjectItem}
use Rattle.qo_sound_devices.specs.SoundPlaces.{child_entries, has_entry}
use Rattle.qo_sound_devices.proofs.AttachmentLemmas.{parent-is}
use Rattle.qo_sound_shapes.specs.SoundShape.{further, HasSlots, IsFurther, may_miss, missing, next}
use Rattle.qo_sound_shapes.proofs.RowLemmas.{IsRowOf, own-rows}
use Rattle.qo_ways.specs.Ways.{IsInOrder}
use Rattle.qo_good.specs.Good.{device_path, object_path, rows, rows_of}
use Rattle.qo_good.proofs.BusLemmas.{listed-entry}
use Rattle.qo_good.proofs.ItemLemmas.{all-append, all-here, births_in, filter_map-map}
use Rattle.qo_good.proofs.LinkLemmas.{bare-creatable, bare-device, rows-named}
use Rattle.qo_good.proofs.PartLemmas.{device_as, devices, devices-said, Here, object_as, objects-said, users}
use Rattle.qo_good.proofs.PlaceLemmas.{apart, device-way, firm, object-way, rises, told}
use Rattle.qo_good.proofs.ValueLemmas.{Its, its-record}

-- an entry and a property of its object
abbrev pub Row : Type 0
Row = (List ℕ × ℕ) × Property

abbrev pub name_of : Row → List ℕ
name_of r = property_name r.1.name

-- the link that is told there
abbrev pub link_in : Board → ℕ → List (List ℕ × Slot) → Property → Option LinkItem
link_in b n xs p = option_and_then (λ (s : Slot). link_item b n (property_name p.name, s)) (named_in (property_name p.name) xs)

abbrev pub link_at : Board → Row → Option LinkItem
link_at b r = link_in b r.0.1 (slots_at b r.0.1) r.1

-- with the path of its object
abbrev pub at_path : Board → Row → List ℕ × Property
at_path b r = (path_text b r.0.1, r.1)

abbrev pub with_path : List ℕ → Property → List ℕ × Property
with_path path p = (path, p)

abbrev pub kind_as : Board → ℕ → TypeId
kind_as b n = unwrap_or (kind_of b n) Object

abbrev pub own_of : Board → List ℕ × ℕ → List Row
own_of b e = map (λ (p : Property). (e, p)) (slots_of (kind_as b e.1))

abbrev pub owners_of : Board → List (List ℕ × ℕ)
owners_of b = child_entries b OBJECTS_BIRTH ++ child_entries b PERIPHERAL_BIRTH

abbrev pub rows_in : Board → List Row
rows_in b = flat_map (own_of b) (owners_of b)

-- ---- rows of types

pub names-distinct : (t : TypeId) → IsDistinct bytes_eq (map (λ (p : Property). property_name p.name) (slots_of t))
unfolding types IsDistinct
names-distinct = each (λ (t : TypeId). IsDistinct bytes_eq (map (λ (p : Property). property_name p.name) (slots_of t))) (search rules)

missing-unset : (t : TypeId) → AllByRecursion (λ (p : Property). (may_miss p && may_set p.access) ≡ false) (slots_of t)
unfolding types
missing-unset = each (λ (t : TypeId). AllByRecursion (λ (p : Property). (may_miss p && may_set p.access) ≡ false) (slots_of t)) (search rules)

and-false : (t u : Bool) → u ≡ false → (t && u) ≡ false
and-false true u e = e
and-false false u e = refl

-- ---- the links of one object

module _ (b : Board) (n : ℕ) (t : TypeId) (kind : kind_of b n ≡ Some t) (bare : (s : List ℕ × Slot) → IsFurther t s → ⊥) where
  pub set-by_row : (p : Property) → IsRowOf t p → is_set b n (property_name p.name) ≡ may_set p.access
  set-by_row p own =
      ap
      (λ (o : Option TypeId).
      option_map_or (λ (x : Property). may_set x.access) (option_and_then (λ (k : TypeId). property_named k (property_name p.name)) o) false)
      kind
      ∙ ap (λ (o : Option Property). option_map_or (λ (x : Property). may_set x.access) o false) own

  unset : (xs : List (List ℕ × Slot)) (p : Property) → is_set b n (property_name p.name) ≡ false → link_in b n xs p ≡ None
  unset xs p off = by (named_in (property_name p.name) xs)
    where
      by : (o : Option Slot) → option_and_then (λ (s : Slot). link_item b n (property_name p.name, s)) o ≡ None
      by None = refl
      by (Some s) =
          ap (λ (u : Bool). if u then option_map (link_to b n (property_name p.name)) (target_of s) else None)
          (and-false (is_link s) (is_set b n (property_name p.name)) off)

  skip-head : (s : List ℕ × Slot) (xs : List (List ℕ × Slot)) (ps : List Property)
      → AllByRecursion (λ (y : List ℕ). bytes_eq s.0 y ≡ false) (map (λ (p : Property). property_name p.name) ps)
      → filter_map (link_in b n (s ∷ xs)) ps ≡ filter_map (link_in b n xs) ps
  skip-head s xs [] h = refl
  skip-head s xs (p ∷ ps) h = go (link_in b n xs p) refl (skip-head s xs ps h.1)
    where
      same : link_in b n (s ∷ xs) p ≡ link_in b n xs p
      same = let other : bytes_eq s.0 (property_name p.name) ≡ false = h.0 in rw other refl

      go : (o : Option LinkItem) → link_in b n xs p ≡ o → filter_map (link_in b n (s ∷ xs)) ps ≡ filter_map (link_in b n xs) ps
          → filter_map (link_in b n (s ∷ xs)) (p ∷ ps) ≡ filter_map (link_in b n xs) (p ∷ ps)
      go None q rest = let one = same ∙ q in rw (one, q) rest
      go (Some y) q rest = let one = same ∙ q in rw (one, q) (ap (λ (ys : List LinkItem). y ∷ ys) rest)

  lines : (ps : List Property) → AllByRecursion (IsRowOf t) ps → AllByRecursion (λ (p : Property). (may_miss p && may_set p.access) ≡ false) ps
      → IsDistinct bytes_eq (map (λ (p : Property). property_name p.name) ps) → {slots : List (List ℕ × Slot)} → HasSlots t ps slots
      → filter_map (link_item b n) slots ≡ filter_map (link_in b n slots) ps
  unfolding IsDistinct
  lines [] own free once (further {slots} all) = empty slots all
    where
      empty : (slots : List (List ℕ × Slot)) → AllByRecursion (IsFurther t) slots → filter_map (link_item b n) slots ≡ []
      empty [] all = refl
      empty (s ∷ slots) all = absurd (bare s all.0)
  lines (p ∷ ps) own free once {slots} (missing may rest) =
      let fixed : may_set p.access ≡ false = rw may at free.0 in
      let none : link_in b n slots p ≡ None = unset slots p (set-by_row p own.0 ∙ fixed) in
      lines ps own.1 free.1 once.1 rest ∙ sym (rw none refl)
  lines (p ∷ ps) own free once (next {s = s} {slots = slots} is rest) =
      go (link_item b n s) refl
      (lines ps own.1 free.1 once.1 rest
      ∙ sym
      (skip-head s slots ps
      (subst (λ (x : List ℕ). AllByRecursion (λ (y : List ℕ). bytes_eq x y ≡ false) (map (λ (q : Property). property_name q.name) ps)) (sym is.name) once.0)))
    where
      own_name : bytes_eq s.0 (property_name p.name) ≡ true
      own_name = (bytes_eq-Decides s.0 (property_name p.name)).1 is.name

      head : link_in b n (s ∷ slots) p ≡ link_item b n s
      head = rw own_name (ap (λ (x : List ℕ). link_item b n (x, s.1)) (sym is.name))

      go : (o : Option LinkItem) → link_item b n s ≡ o → filter_map (link_item b n) slots ≡ filter_map (link_in b n (s ∷ slots)) ps
          → filter_map (link_item b n) (s ∷ slots) ≡ filter_map (link_in b n (s ∷ slots)) (p ∷ ps)
      go None q more = let one = head ∙ q in rw (q, one) more
      go (Some y) q more = let one = head ∙ q in rw (q, one) (ap (λ (ys : List LinkItem). y ∷ ys) more)

module _ (b : Board) (h : IsInOrder b) where
  one-told : (e : List ℕ × ℕ) (t : TypeId) → kind_of b e.1 ≡ Some t → ((s : List ℕ × Slot) → IsFurther t s → ⊥)
      → link_items b e ≡ filter_map (link_at b) (own_of b e)
  one-told e t kind bare =
      let its : Its b e.1 t = its-record b h.shape e.1 t kind in
      let slots : slots_at b e.1 ≡ its.of.slots = ap (λ (o : Option Record). option_map_or (λ (r : Record). r.slots) o []) its.there in
      let same : kind_as b e.1 ≡ t = ap (λ (o : Option TypeId). unwrap_or o Object) kind in
      ap (filter_map (link_item b e.1)) slots
      ∙ lines b e.1 t kind bare (slots_of t) (own-rows t) (missing-unset t) (names-distinct t) its.slots
      ∙ ap (λ (xs : List (List ℕ × Slot)). filter_map (link_in b e.1 xs) (slots_of t)) (sym slots)
      ∙ sym (filter_map-map (λ (p : Property). (e, p)) (link_at b) (slots_of t))
      ∙ ap (λ (k : TypeId). filter_map (link_at b) (map (λ (p : Property). (e, p)) (slots_of k))) (sym same)

  -- an owner of links
  pub record Owner (e : List ℕ × ℕ) : Type 0 where
    pub kind : TypeId
    pub its : kind_of b e.1 ≡ Some kind
    pub bare : (s : List ℕ × Slot) → IsFurther kind s → ⊥
    pub no_clock : (is_a kind (codes "device") ≡ true) ⊎ (is_a kind (codes "user-creatable") ≡ true)

  pub user-owners : AllByRecursion Owner (child_entries b OBJECTS_BIRTH)
  user-owners =
      all-imply (Here b OBJECTS_BIRTH (codes "user-creatable")) Owner
      (λ e k. record { kind = k.kind; its = k.its; bare = bare-creatable k.kind k.wants; no_clock = inr k.wants }) (child_entries b OBJECTS_BIRTH) (users b h)

  pub device-owners : AllByRecursion Owner (child_entries b PERIPHERAL_BIRTH)
  device-owners =
      all-imply (Here b PERIPHERAL_BIRTH (codes "device")) Owner
      (λ e k. record { kind = k.kind; its = k.its; bare = bare-device k.kind k.wants; no_clock = inl k.wants }) (child_entries b PERIPHERAL_BIRTH) (devices b h)

  pub all-owners : AllByRecursion Owner (owners_of b)
  all-owners = all-append Owner (child_entries b OBJECTS_BIRTH) (child_entries b PERIPHERAL_BIRTH) user-owners device-owners

  -- the links of a board are those that are told at its rows
  pub links-by_rows : (description b).links ≡ filter_map (link_at b) (rows_in b)
  links-by_rows = go (owners_of b) all-owners
    where
      go : (es : List (List ℕ × ℕ)) → AllByRecursion Owner es → flat_map (link_items b) es ≡ filter_map (link_at b) (flat_map (own_of b) es)
      go [] all = refl
      go (e ∷ es) all =
          ap₂ (λ (xs ys : List LinkItem). xs ++ ys) (one-told e all.0.kind all.0.its all.0.bare) (go es all.1)
          ∙ sym (filter_map-append (link_at b) (own_of b e) (flat_map (own_of b) es))

  -- ---- the rows of its description

  rows-at : (path : List ℕ) (e : List ℕ × ℕ) (t : TypeId) → kind_of b e.1 ≡ Some t → path_text b e.1 ≡ path
      → rows_of (path, type_name (kind_as b e.1)) ≡ map (at_path b) (own_of b e)
  rows-at path e t kind way =
      let same : kind_as b e.1 ≡ t = ap (λ (o : Option TypeId). unwrap_or o Object) kind in
      ap (map (with_path path))
      (ap (λ (k : TypeId). option_map_or (λ (r : TypeInfo). slots_of r.id) (type_named (type_name k)) []) same ∙ rows-named t ∙ ap slots_of (sym same))
      ∙ ap (λ (x : List ℕ). map (with_path x) (slots_of (kind_as b e.1))) (sym way)
      ∙ twice (slots_of (kind_as b e.1))
    where
      twice : (ps : List Property) → map (with_path (path_text b e.1)) ps ≡ map (at_path b) (map (λ (p : Property). (e, p)) ps)
      twice [] = refl
      twice (p ∷ ps) = ap (λ (xs : List (List ℕ × Property)). (path_text b e.1, p) ∷ xs) (twice ps)

  abbrev object_owner : ObjectItem → List ℕ × List ℕ
  object_owner o = (object_path o.id, o.kind)

  abbrev device_owner : DeviceItem → List ℕ × List ℕ
  device_owner x = (device_path x.id, x.driver)

  flat-rows : (f : List ℕ × ℕ → List ℕ × List ℕ) (es : List (List ℕ × ℕ))
      → AllByRecursion (λ (e : List ℕ × ℕ). rows_of (f e) ≡ map (at_path b) (own_of b e)) es
      → flat_map rows_of (map f es) ≡ map (at_path b) (flat_map (own_of b) es)
  flat-rows f [] all = refl
  flat-rows f (e ∷ es) all =
      ap₂ (λ (xs ys : List (List ℕ × Property)). xs ++ ys) all.0 (flat-rows f es all.1) ∙ sym (map-append (at_path b) (own_of b e) (flat_map (own_of b) es))

  map-twice : {A B C : Type 0} (g : B → C) (f : A → B) (xs : List A) → map g (map f xs) ≡ map (λ (x : A). g (f x)) xs
  map-twice g f [] = refl
  map-twice {C = C} g f (x ∷ xs) = ap (λ (ys : List C). g (f x) ∷ ys) (map-twice g f xs)

  pub rows-told : rows (description b) ≡ map (at_path b) (rows_in b)
  rows-told =
      ap₂ (λ (os : List ObjectItem) (ds : List DeviceItem). flat_map rows_of (map object_owner os ++ map device_owner ds)) (objects-said b h) (devices-said b h)
      ∙ ap₂ (λ (xs ys : List (List ℕ × List ℕ)). flat_map rows_of (xs ++ ys))
      (map-twice object_owner (object_as b) (child_entries b OBJECTS_BIRTH)) (map-twice device_owner (device_as b) (child_entries b PERIPHERAL_BIRTH))
      ∙ flat_map-append rows_of (map (λ (e : List ℕ × ℕ). object_owner (object_as b e)) (child_entries b OBJECTS_BIRTH))
      (map (λ (e : List ℕ × ℕ). device_owner (device_as b e)) (child_entries b PERIPHERAL_BIRTH))
      ∙ ap₂ (λ (xs ys : List (List ℕ × Property)). xs ++ ys)
      (flat-rows (λ (e : List ℕ × ℕ). object_owner (object_as b e)) (child_entries b OBJECTS_BIRTH)
      (all-imply (Here b OBJECTS_BIRTH (codes "user-creatable"))
      (λ (e : List ℕ × ℕ). rows_of (object_owner (object_as b e)) ≡ map (at_path b) (own_of b e))
      (λ e k. rows-at (object_path e.0) e k.kind k.its
      (told b h e.1 (object_path e.0) (apart b h OBJECTS_BIRTH e (omega arith) k.there) (object-way b h e.1 e.0 k.there)))
      (child_entries b OBJECTS_BIRTH) (users b h)))
      (flat-rows (λ (e : List ℕ × ℕ). device_owner (device_as b e)) (child_entries b PERIPHERAL_BIRTH)
      (all-imply (Here b PERIPHERAL_BIRTH (codes "device"))
      (λ (e : List ℕ × ℕ). rows_of (device_owner (device_as b e)) ≡ map (at_path b) (own_of b e))
      (λ e k. rows-at (device_path e.0) e k.kind k.its
      (told b h e.1 (device_path e.0) (apart b h PERIPHERAL_BIRTH e (omega arith) k.there) (device-way b h e.1 e.0 k.there)))
      (child_entries b PERIPHERAL_BIRTH) (devices b h)))
      ∙ sym (map-append (at_path b) (flat_map (own_of b) (child_entries b OBJECTS_BIRTH)) (flat_map (own_of b) (child_entries b PERIPHERAL_BIRTH)))
      ∙ ap (map (at_path b)) (sym (flat_map-append (own_of b) (child_entries b OBJECTS_BIRTH) (child_entries b PERIPHERAL_BIRTH)))

-- ---- no two rows are the same

abbrev pub Apart : Row → Row → Type 0
Apart r s = s.0.1 ≡ r.0.1 → name_of s ≡ name_of r → ⊥

abbrev pub AllApart : List Row → Type 0
AllApart [] = Unit {0}
AllApart (r ∷ rs) = AllByRecursion (Apart r) rs × AllApart rs

-- births of entries
abbrev Differ : List ℕ × ℕ → List ℕ × ℕ → Type 0
Differ e x = x.1 ≡ e.1 → ⊥

abbrev AllDiffer : List (List ℕ × ℕ) → Type 0
AllDiffer [] = Unit {0}
AllDiffer (e ∷ es) = AllByRecursion (Differ e) es × AllDiffer es

apart-append : (rs ss : List Row) → AllApart rs → AllApart ss → AllByRecursion (λ (r : Row). AllByRecursion (Apart r) ss) rs → AllApart (rs ++ ss)
apart-append [] ss h k across = k
apart-append (r ∷ rs) ss h k across = (all-append (Apart r) rs ss h.0 across.0, apart-append rs ss h.1 k across.1)

own-apart : (e : List ℕ × ℕ) (ps : List Property) → IsDistinct bytes_eq (map (λ (p : Property). property_name p.name) ps)
    → AllApart (map (λ (p : Property). (e, p)) ps)
unfolding IsDistinct
own-apart e [] h = tt
own-apart e (p ∷ ps) h = (first ps h.0, own-apart e ps h.1)
  where
    first : (qs : List Property) → AllByRecursion (λ (y : List ℕ). bytes_eq (property_name p.name) y ≡ false) (map (λ (q : Property). property_name q.name) qs)
        → AllByRecursion (Apart (e, p)) (map (λ (q : Property). (e, q)) qs)
    first [] k = tt
    first (q ∷ qs) k = (
      (λ births names. absurd (let no : true ≡ false = sym ((bytes_eq-Decides (property_name p.name) (property_name q.name)).1 (sym names)) ∙ k.0 in cc)),
      first qs k.1,
    )

module _ (f : List ℕ × ℕ → List Property) where
  abbrev placed : List ℕ × ℕ → List Row
  placed e = map (λ (p : Property). (e, p)) (f e)

  of-others : (e : List ℕ × ℕ) (p : Property) (x : List ℕ × ℕ) → Differ e x → (qs : List Property)
      → AllByRecursion (Apart (e, p)) (map (λ (q : Property). (x, q)) qs)
  of-others e p x differ [] = tt
  of-others e p x differ (q ∷ qs) = ((λ births names. differ births), of-others e p x differ qs)

  across : (e : List ℕ × ℕ) (p : Property) (es : List (List ℕ × ℕ)) → AllByRecursion (Differ e) es
      → AllByRecursion (Apart (e, p)) (flat_map (λ (x : List ℕ × ℕ). map (λ (q : Property). (x, q)) (f x)) es)
  across e p [] h = tt
  across e p (x ∷ es) h =
      all-append (Apart (e, p)) (map (λ (q : Property). (x, q)) (f x)) (flat_map (λ (y : List ℕ × ℕ). map (λ (q : Property). (y, q)) (f y)) es)
      (of-others e p x h.0 (f x)) (across e p es h.1)

  flat-apart : (es : List (List ℕ × ℕ)) → AllDiffer es → ((e : List ℕ × ℕ) → IsDistinct bytes_eq (map (λ (p : Property). property_name p.name) (f e)))
      → AllApart (flat_map (λ (x : List ℕ × ℕ). map (λ (q : Property). (x, q)) (f x)) es)
  flat-apart [] h once = tt
  flat-apart (e ∷ es) h once =
      apart-append (map (λ (q : Property). (e, q)) (f e)) (flat_map (λ (x : List ℕ × ℕ). map (λ (q : Property). (x, q)) (f x)) es)
      (own-apart e (f e) (once e)) (flat-apart es h.1 once) (each-own (f e))
    where
      each-own : (ps : List Property)
          → AllByRecursion (λ (r : Row). AllByRecursion (Apart r) (flat_map (λ (x : List ℕ × ℕ). map (λ (q : Property). (x, q)) (f x)) es))
          (map (λ (q : Property). (e, q)) ps)
      each-own [] = tt
      each-own (p ∷ ps) = (across e p es h.0, each-own ps)

differ-append : (es xs : List (List ℕ × ℕ)) → AllDiffer es → AllDiffer xs → AllByRecursion (λ (e : List ℕ × ℕ). AllByRecursion (Differ e) xs) es
    → AllDiffer (es ++ xs)
differ-append [] xs h k between = k
differ-append (e ∷ es) xs h k between = (all-append (Differ e) es xs h.0 between.0, differ-append es xs h.1 k between.1)

rising-differ : (es : List (List ℕ × ℕ)) → Rises (births_in es) → AllDiffer es
rising-differ [] h = tt
rising-differ (e ∷ es) h = (above es h.0, rising-differ es h.1)
  where
    above : (xs : List (List ℕ × ℕ)) → AllByRecursion (λ (m : ℕ). e.1 < m) (births_in xs) → AllByRecursion (Differ e) xs
    above [] k = tt
    above (x ∷ xs) k = ((λ same. let low : e.1 < x.1 = k.0 in let no : 0 < 0 = omega (arith, low, same) in absurd (omega (arith, no))), above xs k.1)

pub rows-apart : (b : Board) → IsInOrder b → AllApart (rows_in b)
rows-apart b h = flat-apart (λ (e : List ℕ × ℕ). slots_of (kind_as b e.1)) (owners_of b) differ (λ e. names-distinct (kind_as b e.1))
  where
    us : List (List ℕ × ℕ)
    us = child_entries b OBJECTS_BIRTH

    parent : (p : ℕ) (x : List ℕ × ℕ) → has_entry x (child_entries b p) ≡ true → option_map (λ (q : ℕ × List ℕ). q.0) (place_of b x.1) ≡ Some p
    parent p x there = parent-is b (firm b h) p x.1 (listed-entry x (child_entries b p) there)

    between : AllByRecursion (λ (e : List ℕ × ℕ). AllByRecursion (Differ e) (child_entries b PERIPHERAL_BIRTH)) (child_entries b OBJECTS_BIRTH)
    between =
        all-imply (λ (e : List ℕ × ℕ). has_entry e (child_entries b OBJECTS_BIRTH) ≡ true)
        (λ (e : List ℕ × ℕ). AllByRecursion (Differ e) (child_entries b PERIPHERAL_BIRTH))
        (λ e there.
        all-imply (λ (x : List ℕ × ℕ). has_entry x (child_entries b PERIPHERAL_BIRTH) ≡ true) (Differ e)
        (λ x on same.
        let up : Some PERIPHERAL_BIRTH ≡ Some OBJECTS_BIRTH =
        sym (parent PERIPHERAL_BIRTH x on) ∙ ap (λ (m : ℕ). option_map (λ (q : ℕ × List ℕ). q.0) (place_of b m)) same ∙ parent OBJECTS_BIRTH e there in
        absurd (let no : PERIPHERAL_BIRTH ≡ OBJECTS_BIRTH = same_Some PERIPHERAL_BIRTH OBJECTS_BIRTH up in omega (arith, no)))
        (child_entries b PERIPHERAL_BIRTH) (all-here (child_entries b PERIPHERAL_BIRTH)))
        (child_entries b OBJECTS_BIRTH) (all-here (child_entries b OBJECTS_BIRTH))

    differ : AllDiffer (owners_of b)
    differ =
        differ-append (child_entries b OBJECTS_BIRTH) (child_entries b PERIPHERAL_BIRTH)
        (rising-differ (child_entries b OBJECTS_BIRTH) (rises b h OBJECTS_BIRTH).1)
        (rising-differ (child_entries b PERIPHERAL_BIRTH) (rises b h PERIPHERAL_BIRTH).1) between
