-- What a board tells that has more users' objects and devices.
use Rattle.std.proofs.Common.{◌≡◌, refl, ap, sym, ◌∙◌, rules, ℕ, Bool, true, false, not, ◌==◌, ◌&&◌, eqb, List, [], ◌∷◌, ◌++◌, filter, filter_map, length, map, Option, Some, None, is_some, is_none, codes, append-nil}
use Rattle.std.specs.List.{flat_map}
use Rattle.std.proofs.Math.Bool.{or-true}
use Rattle.std.proofs.lemmas.Grind.{flat_map-append}
use Rattle.std.proofs.lemmas.List.Elements.{filter_map-append}
use Rattle.qo_model.proofs.Common.{AllByRecursion, nat_eq_equiv, ANONYMOUS_BIRTH, OBJECTS_BIRTH, PERIPHERAL_BIRTH, ROOT_BIRTH, SYSTEM_CLOCK_BIRTH, TypeId, Clock, Board, Record, is_live, kind_of, slots_at, among, births, children_of, detached, place_of, is_a, types}
use Rattle.qo_values.proofs.EachLemmas.{each}
use Rattle.qo_values.proofs.ListLemmas.{all-imply}
use Rattle.qo_model.proofs.StepLemmas.{live-among}
use Rattle.qo_model.specs.Board.{Removal}
use Rattle.qo_model.specs.Properties.{path_text}
use Rattle.qo_save.specs.Described.{clock_item_of, clock_numbers, description, device_item, is_describable, link_items, object_item, ring_item}
use Rattle.qo_save.specs.Description.{ClockItem, ClockNumbers, Description, DeviceItem, LinkItem, ObjectItem, RingItem}
use Rattle.qo_sound.proofs.TestLemmas.{clash-back, decide}
use Rattle.qo_sound_devices.specs.SoundPlaces.{child_entries, has_entry}
use Rattle.qo_good.specs.GoodBoards.{IsWhole}
use Rattle.qo_good.proofs.BusLemmas.{device-no_shelf, Stood, stood-all}
use Rattle.qo_good.proofs.ItemLemmas.{births_in, filter_map-same}
use Rattle.qo_good.proofs.PartLemmas.{Here, is_shelf, system-kind, users}
use Rattle.qo_good.proofs.PlaceLemmas.{entries-children, parts, settled}
use Rattle.qo_rebuilt.proofs.GrowthLemmas.{clock-kept, device-kept, kind-live, links-kept, object-kept, places-kept, system-kept, texts-kept}

-- ---- types

users-inner : (t : TypeId) → is_a t (codes "user-creatable") ≡ true → (is_shelf t ≡ false) × (is_a t (codes "bus") ≡ false)
unfolding types
users-inner = each (λ (t : TypeId). is_a t (codes "user-creatable") ≡ true → (is_shelf t ≡ false) × (is_a t (codes "bus") ≡ false)) (search rules)

devices-inner : (t : TypeId) → is_a t (codes "device") ≡ true → is_a t (codes "bus") ≡ false
unfolding types
devices-inner = each (λ (t : TypeId). is_a t (codes "device") ≡ true → is_a t (codes "bus") ≡ false) (search rules)

clocks-inner : (is_shelf Clock ≡ false) × (is_a Clock (codes "bus") ≡ false)
unfolding types
clocks-inner = (refl, refl)

-- ---- lists

pub flat-same : {X Y : Type 0} (f g : X → List Y) (xs : List X) → AllByRecursion (λ (x : X). f x ≡ g x) xs → flat_map f xs ≡ flat_map g xs
flat-same f g [] h = refl
flat-same {Y = Y} f g (x ∷ xs) h = ap (λ (ys : List Y). ys ++ flat_map f xs) h.0 ∙ ap (λ (ys : List Y). g x ++ ys) (flat-same f g xs h.1)

pub none-left : {X : Type 0} (test : X → Bool) (xs : List X) → AllByRecursion (λ (x : X). test x ≡ false) xs → filter test xs ≡ []
none-left test [] h = refl
none-left test (x ∷ xs) h = rw h.0 (none-left test xs h.1)

all-among : (rs : List Record) → AllByRecursion (λ (r : Record). among (map (λ (x : Record). x.birth) rs) r.birth ≡ true) rs
all-among [] = tt
all-among (r ∷ rs) =
    let own : eqb r.birth r.birth ≡ true = (nat_eq_equiv).refl r.birth in (
      rw own refl,
      all-imply (λ (x : Record). among (map (λ (y : Record). y.birth) rs) x.birth ≡ true)
          (λ (x : Record). among (map (λ (y : Record). y.birth) (r ∷ rs)) x.birth ≡ true)
          (λ x e. rw e (or-true (eqb x.birth r.birth))) rs (all-among rs),
    )

-- each object that a board has is there
pub all-live : (b : Board) → AllByRecursion (λ (r : Record). is_live b r.birth ≡ true) b.records
all-live b =
    all-imply (λ (r : Record). among (births b) r.birth ≡ true) (λ (r : Record). is_live b r.birth ≡ true) (λ r e. live-among b r.birth ∙ e) b.records
    (all-among b.records)

-- ---- a board that grew

-- the objects that a description is of stay as they are, but for buses and what has children of any name; what was a child of an object is one
pub record IsGrown (b c : Board) : Type 0 where
  pub same : (n : ℕ) (t : TypeId) → kind_of b n ≡ Some t → is_shelf t ≡ false → is_a t (codes "bus") ≡ false
      → (slots_at c n ≡ slots_at b n) × (kind_of c n ≡ kind_of b n)
  pub grows : (p : ℕ) (e : List ℕ × ℕ) → has_entry e (child_entries b p) ≡ true → has_entry e (child_entries c p) ≡ true

module _ (b c : Board) (h : IsWhole b) (k : IsWhole c) (g : IsGrown b c) (says : is_describable b ≡ true) where
  texts : (m : ℕ) → is_live b m ≡ true → path_text c m ≡ path_text b m
  texts = texts-kept b c h.order k.order g.grows says

  devices-stay : {X : Type 0} (f g : List ℕ × ℕ → X)
      → ((e : List ℕ × ℕ) → Stood b e → is_live b e.1 ≡ true → slots_at c e.1 ≡ slots_at b e.1 → kind_of c e.1 ≡ kind_of b e.1 → f e ≡ g e)
      → AllByRecursion (λ (e : List ℕ × ℕ). f e ≡ g e) (child_entries b PERIPHERAL_BIRTH)
  devices-stay f to from =
      all-imply (Stood b) (λ (e : List ℕ × ℕ). f e ≡ to e)
      (λ e k.
      let two = g.same e.1 k.here.kind k.here.its (device-no_shelf k.here.kind k.here.wants) (devices-inner k.here.kind k.here.wants) in
      from e k (kind-live b e.1 k.here.kind k.here.its) two.0 two.1)
      (child_entries b PERIPHERAL_BIRTH) (stood-all b h.order says)

  users-stay : {X : Type 0} (f g : List ℕ × ℕ → X)
      → ((e : List ℕ × ℕ) → is_live b e.1 ≡ true → slots_at c e.1 ≡ slots_at b e.1 → kind_of c e.1 ≡ kind_of b e.1 → f e ≡ g e)
      → AllByRecursion (λ (e : List ℕ × ℕ). f e ≡ g e) (child_entries b OBJECTS_BIRTH)
  users-stay f to from =
      all-imply (Here b OBJECTS_BIRTH (codes "user-creatable")) (λ (e : List ℕ × ℕ). f e ≡ to e)
      (λ e k.
      let apart = users-inner k.kind k.wants in
      let two = g.same e.1 k.kind k.its apart.0 apart.1 in
      from e (kind-live b e.1 k.kind k.its) two.0 two.1)
      (child_entries b OBJECTS_BIRTH) (users b h.order)

  -- those that were there are told as before
  old-objects : filter_map (object_item c) (child_entries b OBJECTS_BIRTH) ≡ filter_map (object_item b) (child_entries b OBJECTS_BIRTH)
  old-objects =
      filter_map-same (object_item c) (object_item b) (child_entries b OBJECTS_BIRTH)
      (users-stay (object_item c) (object_item b) (λ e live slots kinds. object-kept b c h.order texts e live slots kinds))

  old-devices : filter_map (device_item c) (child_entries b PERIPHERAL_BIRTH) ≡ filter_map (device_item b) (child_entries b PERIPHERAL_BIRTH)
  old-devices =
      filter_map-same (device_item c) (device_item b) (child_entries b PERIPHERAL_BIRTH)
      (devices-stay (device_item c) (device_item b) (λ e k live slots kinds. device-kept b c h.order texts e live slots kinds))

  old-clocks : filter_map (clock_item_of c) (child_entries b PERIPHERAL_BIRTH) ≡ filter_map (clock_item_of b) (child_entries b PERIPHERAL_BIRTH)
  old-clocks =
      filter_map-same (clock_item_of c) (clock_item_of b) (child_entries b PERIPHERAL_BIRTH)
      (devices-stay (clock_item_of c) (clock_item_of b) (λ e k live slots kinds.
      clock-kept b c h.order texts e live slots kinds (λ n its.
      let kind : kind_of b n ≡ Some Clock = h.sources.clocks e.1 n k.realized its in
      (kind-live b n Clock kind, (g.same n Clock kind clocks-inner.0 clocks-inner.1).0))))

  old-user_links : flat_map (link_items c) (child_entries b OBJECTS_BIRTH) ≡ flat_map (link_items b) (child_entries b OBJECTS_BIRTH)
  old-user_links =
      flat-same (link_items c) (link_items b) (child_entries b OBJECTS_BIRTH)
      (users-stay (link_items c) (link_items b) (λ e live slots kinds. links-kept b c h.order texts e live slots kinds))

  old-device_links : flat_map (link_items c) (child_entries b PERIPHERAL_BIRTH) ≡ flat_map (link_items b) (child_entries b PERIPHERAL_BIRTH)
  old-device_links =
      flat-same (link_items c) (link_items b) (child_entries b PERIPHERAL_BIRTH)
      (devices-stay (link_items c) (link_items b) (λ e k live slots kinds. links-kept b c h.order texts e live slots kinds))

  old-clock : clock_numbers c ≡ clock_numbers b
  old-clock =
      system-kept b c h.order texts (g.same SYSTEM_CLOCK_BIRTH Clock (system-kind b h.order) clocks-inner.0 clocks-inner.1).0

  module _ (us ds : List (List ℕ × ℕ)) (more_users : child_entries c OBJECTS_BIRTH ≡ child_entries b OBJECTS_BIRTH ++ us)
      (more_devices : child_entries c PERIPHERAL_BIRTH ≡ child_entries b PERIPHERAL_BIRTH ++ ds) where
    told : {X : Type 0} (f g : List ℕ × ℕ → Option X) (p : ℕ) (es : List (List ℕ × ℕ)) → child_entries c p ≡ child_entries b p ++ es
        → filter_map f (child_entries b p) ≡ filter_map g (child_entries b p)
        → filter_map f (child_entries c p) ≡ filter_map g (child_entries b p) ++ filter_map f es
    told {X = X} f g p es more same =
        ap (filter_map f) more ∙ filter_map-append f (child_entries b p) es ∙ ap (λ (xs : List X). xs ++ filter_map f es) same

    links-told : flat_map (link_items c) us ≡ [] → flat_map (link_items c) ds ≡ [] → (description c).links ≡ (description b).links
    links-told none none_more =
        ap (flat_map (link_items c)) (ap (λ (es : List (List ℕ × ℕ)). es ++ child_entries c PERIPHERAL_BIRTH) more_users)
        ∙ flat_map-append (link_items c) (child_entries b OBJECTS_BIRTH ++ us) (child_entries c PERIPHERAL_BIRTH)
        ∙ ap (λ (xs : List LinkItem). xs ++ flat_map (link_items c) (child_entries c PERIPHERAL_BIRTH))
        (flat_map-append (link_items c) (child_entries b OBJECTS_BIRTH) us
        ∙ ap (λ (xs : List LinkItem). flat_map (link_items c) (child_entries b OBJECTS_BIRTH) ++ xs) none
        ∙ append-nil (flat_map (link_items c) (child_entries b OBJECTS_BIRTH)) ∙ old-user_links)
        ∙ ap (λ (xs : List LinkItem). flat_map (link_items b) (child_entries b OBJECTS_BIRTH) ++ xs)
        (ap (flat_map (link_items c)) more_devices
        ∙ flat_map-append (link_items c) (child_entries b PERIPHERAL_BIRTH) ds
        ∙ ap (λ (xs : List LinkItem). flat_map (link_items c) (child_entries b PERIPHERAL_BIRTH) ++ xs) none_more
        ∙ append-nil (flat_map (link_items c) (child_entries b PERIPHERAL_BIRTH)) ∙ old-device_links)
        ∙ sym (flat_map-append (link_items b) (child_entries b OBJECTS_BIRTH) (child_entries b PERIPHERAL_BIRTH))

    abbrev all_told : ClockNumbers → List ClockItem → List DeviceItem → List LinkItem → List ObjectItem → List RingItem → Description
    all_told clock clocks devices links objects rings =
        record { clock = clock; clocks = clocks; devices = devices; links = links; objects = objects; rings = rings }

    -- it tells those that are new after them, where they have no links
    pub description-grown : flat_map (link_items c) us ≡ [] → flat_map (link_items c) ds ≡ [] → c.rings ≡ b.rings
        → description c
        ≡ record (description b) {
          clocks = (description b).clocks ++ filter_map (clock_item_of c) ds;
          devices = (description b).devices ++ filter_map (device_item c) ds;
          objects = (description b).objects ++ filter_map (object_item c) us;
        }
    description-grown none none_more rings =
        let d : Description = description c in
        ap (λ (x : ClockNumbers). all_told x d.clocks d.devices d.links d.objects d.rings) old-clock
        ∙ ap (λ (x : List ClockItem). all_told (description b).clock x d.devices d.links d.objects d.rings)
        (told (clock_item_of c) (clock_item_of b) PERIPHERAL_BIRTH ds more_devices old-clocks)
        ∙ ap (λ (x : List DeviceItem). all_told (description b).clock ((description b).clocks ++ filter_map (clock_item_of c) ds) x d.links d.objects d.rings)
        (told (device_item c) (device_item b) PERIPHERAL_BIRTH ds more_devices old-devices)
        ∙ ap (λ (x : List LinkItem). all_told (description b).clock ((description b).clocks ++ filter_map (clock_item_of c) ds)
        ((description b).devices ++ filter_map (device_item c) ds) x d.objects d.rings) (links-told none none_more)
        ∙ ap (λ (x : List ObjectItem). all_told (description b).clock ((description b).clocks ++ filter_map (clock_item_of c) ds)
        ((description b).devices ++ filter_map (device_item c) ds) (description b).links x d.rings)
        (told (object_item c) (object_item b) OBJECTS_BIRTH us more_users old-objects)
        ∙ ap (λ (x : List RingItem). all_told (description b).clock ((description b).clocks ++ filter_map (clock_item_of c) ds)
        ((description b).devices ++ filter_map (device_item c) ds) (description b).links ((description b).objects ++ filter_map (object_item c) us) x)
        (ap (map ring_item) rings)

  -- it has a description, where each new object has a parent
  module _ (new : (n : ℕ) → is_live c n ≡ true → is_live b n ≡ false → is_some (place_of c n) ≡ true) where
    abbrev lost : Record → Bool
    lost r = not (r.birth == ROOT_BIRTH) && is_none (place_of c r.birth)

    found : (n : ℕ) → is_live c n ≡ true → (n == ROOT_BIRTH) ≡ false → is_some (place_of c n) ≡ true
    found n live other =
        decide (is_live b n)
        (λ old. let (u, place) = settled b h.order says n old other in ap is_some (places-kept b c h.order k.order g.grows n u place))
        (λ young. new n live young)

    some-not_none : {X : Type 0} (o : Option X) → is_some o ≡ true → is_none o ≡ false
    some-not_none None e = clash-back e
    some-not_none (Some x) e = refl

    kept : AllByRecursion (λ (r : Record). lost r ≡ false) c.records
    kept =
        all-imply (λ (r : Record). is_live c r.birth ≡ true) (λ (r : Record). lost r ≡ false)
        (λ r live. decide (r.birth == ROOT_BIRTH) (λ q. rw q refl) (λ q. rw (q, some-not_none (place_of c r.birth) (found r.birth live q)) refl))
        c.records (all-live c)

    pub describable-grown : c.pending ≡ b.pending → child_entries c ANONYMOUS_BIRTH ≡ child_entries b ANONYMOUS_BIRTH → is_describable c ≡ true
    describable-grown pending anonymous =
        let own = parts b h.order says in
        let none : detached c ≡ [] = none-left lost c.records kept in
        let first : (length (detached c) == 0) ≡ true = ap (λ (rs : List Record). length rs == 0) none in
        let second : (length c.pending == 0) ≡ true = ap (λ (rs : List Removal). length rs == 0) pending ∙ own.1 in
        let children : children_of c ANONYMOUS_BIRTH ≡ children_of b ANONYMOUS_BIRTH =
        sym (entries-children (slots_at c ANONYMOUS_BIRTH)) ∙ ap births_in anonymous ∙ entries-children (slots_at b ANONYMOUS_BIRTH) in
        let third : (length (children_of c ANONYMOUS_BIRTH) == 0) ≡ true = ap (λ (ns : List ℕ). length ns == 0) children ∙ own.2 in
        rw (first, second, third) refl
