-- What a board tells after a link was written: all else as before, and the link in its row.
use Rattle.std.proofs.Common.{◌≡◌, refl, ap, ap₂, sym, subst, ◌∙◌, rules, ℕ, ◌&&◌, Bool, true, false, eqb, List, [], ◌∷◌, ◌++◌, filter_map, map, Option, Some, None, option_map, option_and_then, unwrap_or, codes}
use Rattle.std.specs.List.{flat_map, list_any}
use Rattle.std.proofs.lemmas.Bool.{eqb-true}
use Rattle.qo_model.proofs.Common.{AllByRecursion, option_map_or, if◌then◌else◌, bytes_eq, OBJECTS_BIRTH, PERIPHERAL_BIRTH, SYSTEM_CLOCK_BIRTH, TypeId, Clock, Object, Val, Board, Slot, is_live, kind_of, slot_named, slots_at, target_of, pointed, bus_of, child_named, clock_of, number_in, plain_in, strong_in, may_set, property_name, property_named, slots_of, types, Given}
use Rattle.qo_values.proofs.EachLemmas.{each}
use Rattle.qo_values.proofs.ListLemmas.{all-imply, found-has}
use Rattle.qo_model.proofs.FirstSlotLemmas.{named_in}
use Rattle.qo_model.specs.Properties.{path_text, target_text}
use Rattle.qo_model.specs.declared.properties.Property.{Property}
use Rattle.qo_model.specs.declared.properties.PropertyRole.{PropertyRole}
use Rattle.qo_model.specs.declared.properties.PropertyRole.TheVariants as row
use Rattle.qo_save.specs.Described.{clock_item, clock_item_of, clock_numbers, description, device_given, device_item, device_of, is_describable, is_link, is_nothing, is_set, is_unset, link_item, link_to, object_given, object_item, object_of, prop_under, props_under, ring_item}
use Rattle.qo_save.specs.Description.{ClockItem, ClockNumbers, Description, DeviceItem, LinkItem, ObjectItem, RingItem}
use Rattle.qo_sound.proofs.FirmBoardLemmas.{Linked}
use Rattle.qo_sound.proofs.TestLemmas.{decide}
use Rattle.qo_sound_devices.specs.SoundPlaces.{child_entries}
use Rattle.qo_sound_shapes.proofs.RowLemmas.{IsRowOf}
use Rattle.qo_good.specs.GoodBoards.{IsWhole}
use Rattle.qo_good.proofs.BusLemmas.{Stood, stood-all}
use Rattle.qo_good.proofs.ItemLemmas.{filter_map-same}
use Rattle.qo_good.proofs.PartLemmas.{system-kind}
use Rattle.qo_rebuilt.proofs.FrameLemmas.{said_in, said_of}
use Rattle.qo_rebuilt.proofs.GrowthLemmas.{factors-kept, given-kept, held-kept, kind-live, linked-slot, system-kept, target-live}
use Rattle.qo_rebuilt.proofs.LinkRowLemmas.{link_at, own_of, owners_of, Row, rows_in}
use Rattle.qo_rebuilt.proofs.LinkWriteLemmas.{LinkWritten}
use Rattle.qo_rebuilt.proofs.WrittenLemmas.{describable-written, texts-written}

-- the names under which a description reads what is no link that `qom-set` writes
abbrev pub read_names : List (List ℕ)
read_names =
    codes "clk" ∷ codes "parent_bus" ∷ codes "slot" ∷ codes "addr" ∷ codes "chardev" ∷ codes "memdev" ∷ codes "flag" ∷ codes "number" ∷ codes "size"
    ∷ codes "text"
    ∷ []

abbrev is_link_role : PropertyRole → Bool
is_link_role (row.Link t holds) = true
is_link_role role = false

abbrev pub Unread : List ℕ → Type 0
Unread name = AllByRecursion (λ (y : List ℕ). bytes_eq name y ≡ false) read_names

rows-unread : (t : TypeId) → AllByRecursion
    (λ (p : Property). (may_set p.access && (is_link_role p.role && list_any (bytes_eq (property_name p.name)) read_names)) ≡ false) (slots_of t)
unfolding types
rows-unread =
    each
    (λ (t : TypeId).
    AllByRecursion (λ (p : Property). (may_set p.access && (is_link_role p.role && list_any (bytes_eq (property_name p.name)) read_names)) ≡ false)
    (slots_of t))
    (search rules)

none-any : {X : Type 0} (test : X → Bool) (xs : List X) → list_any test xs ≡ false → AllByRecursion (λ (x : X). test x ≡ false) xs
none-any test [] e = tt
none-any test (x ∷ xs) e = go (test x) refl (none-any test xs)
  where
    go : (t : Bool) → test x ≡ t → (list_any test xs ≡ false → AllByRecursion (λ z. test z ≡ false) xs) → AllByRecursion (λ z. test z ≡ false) (x ∷ xs)
    go true q rest = absurd (let no : true ≡ false = rw q at e in cc)
    go false q rest = (q, rest (rw q at e))

pub link-unread : (t : TypeId) (p : Property) → IsRowOf t p → may_set p.access ≡ true → (to : TypeId) (holds : Bool) → p.role ≡ row.Link to holds
    → Unread (property_name p.name)
link-unread t p own set to holds role =
    let test : (may_set p.access && (is_link_role p.role && list_any (bytes_eq (property_name p.name)) read_names)) ≡ false =
    found-has (λ (q : Property). (may_set q.access && (is_link_role q.role && list_any (bytes_eq (property_name q.name)) read_names)) ≡ false)
    (λ (q : Property). bytes_eq (property_name q.name) (property_name p.name)) (slots_of t) p (rows-unread t) own in
    let link : is_link_role p.role ≡ true = ap is_link_role role in
    none-any (bytes_eq (property_name p.name)) read_names (rw (set, link) at test)

module _ (b c : Board) (h : IsWhole b) (says : is_describable b ≡ true) (n : ℕ) (name : List ℕ) (s : Slot) (m : ℕ) (other : kind_of b n ≡ Some Clock → ⊥)
    (w : LinkWritten b c n name s m) (unread : AllByRecursion (λ (y : List ℕ). bytes_eq name y ≡ false) read_names) where
  pub texts : (x : ℕ) → is_live b x ≡ true → path_text c x ≡ path_text b x
  texts = texts-written b c h.order w.whole.order says w.shape

  pub says-after : is_describable c ≡ true
  says-after = describable-written b c h.order w.whole.order says w.shape

  named-at : (x : ℕ) (y : List ℕ) → (x ≡ n → bytes_eq name y ≡ false) → slot_named c x y ≡ slot_named b x y
  named-at x y apart =
      decide (eqb x n)
      (λ q.
      let is : x ≡ n = eqb-true x n q in
      subst (λ (z : ℕ). slot_named c z y ≡ slot_named b z y) (sym is) (w.named y (apart is)))
      (λ q. ap (named_in y) (w.slots x q))

  clock-slots : (x : ℕ) → kind_of b x ≡ Some Clock → slots_at c x ≡ slots_at b x
  clock-slots x its =
      w.slots x (decide (eqb x n) (λ q. absurd (other (ap (kind_of b) (sym (eqb-true x n q)) ∙ its))) (λ q. q))

  clock-told : clock_numbers c ≡ clock_numbers b
  clock-told = system-kept b c h.order texts (clock-slots SYSTEM_CLOCK_BIRTH (system-kind b h.order))

  -- ---- items

  item-clock : (e : List ℕ × ℕ) → Stood b e → clock_item_of c e ≡ clock_item_of b e
  item-clock e k =
      ap (λ (o : Option Slot). option_and_then (clock_item c) (option_and_then child_named o)) (named-at e.1 (codes "clk") (λ is. unread.0))
      ∙ by (clock_of b e.1) refl
    where
      by : (o : Option ℕ) → clock_of b e.1 ≡ o → option_and_then (clock_item c) o ≡ option_and_then (clock_item b) o
      by None q = refl
      by (Some x) q =
          let its : kind_of b x ≡ Some Clock = h.sources.clocks e.1 x k.realized q in
          factors-kept b c h.order texts x (clock-slots x its) (kind-live b x Clock its)

  linked : (x : ℕ) (y : List ℕ) (u : Slot) → slot_named b x y ≡ Some u → Linked (kind_of b) u
  linked x y u q = linked-slot b b h.order (λ z live. refl) x refl y u q

  prop-told : (left_out : Val → Bool) (x : ℕ) (y : List ℕ) → bytes_eq name y ≡ false → prop_under c left_out x y ≡ prop_under b left_out x y
  prop-told left_out x y apart = ap (option_and_then (said_in c left_out y)) (named-at x y (λ is. apart)) ∙ by (slot_named b x y) refl
    where
      by : (o : Option Slot) → slot_named b x y ≡ o → option_and_then (said_in c left_out y) o ≡ option_and_then (said_in b left_out y) o
      by None q = refl
      by (Some u) q = ap (said_of left_out y) (given-kept b c h.order texts u (linked x y u q))

  props-told : (left_out : Val → Bool) (names : List (List ℕ)) (x : ℕ) → AllByRecursion (λ (y : List ℕ). bytes_eq name y ≡ false) names
      → props_under c left_out names x ≡ props_under b left_out names x
  props-told left_out names x all =
      filter_map-same (prop_under c left_out x) (prop_under b left_out x) names
      (all-imply (λ (y : List ℕ). bytes_eq name y ≡ false) (λ (y : List ℕ). prop_under c left_out x y ≡ prop_under b left_out x y)
      (λ y apart. prop-told left_out x y apart) names all)

  bus-told : (x : ℕ) → target_text c (bus_of c x) ≡ target_text b (bus_of b x)
  bus-told x =
      ap (λ (o : Option Slot). target_text c (option_and_then strong_in o)) (named-at x (codes "parent_bus") (λ is. unread.1.0))
      ∙ by (slot_named b x (codes "parent_bus")) refl
    where
      by : (o : Option Slot) → slot_named b x (codes "parent_bus") ≡ o
          → target_text c (option_and_then strong_in o) ≡ target_text b (option_and_then strong_in o)
      by None q = refl
      by (Some u) q = held-kept b c h.order texts u (linked x (codes "parent_bus") u q)

  item-device : (e : List ℕ × ℕ) → device_item c e ≡ device_item b e
  item-device e = ap (option_map (device_of c e)) (w.shape.kinds e.1) ∙ by (kind_of b e.1)
    where
      given_names : AllByRecursion (λ (y : List ℕ). bytes_eq name y ≡ false) device_given
      given_names = (unread.1.1.1.0, (unread.1.1.1.1.0, (unread.1.1.1.1.1.0, tt)))

      by : (o : Option TypeId) → option_map (device_of c e) o ≡ option_map (device_of b e) o
      by None = refl
      by (Some t) =
          ap (λ (path : List ℕ). Some (record (device_of c e t) { bus = path })) (bus-told e.1)
          ∙ ap (λ (props : List Given). Some (record (device_of c e t) { bus = target_text b (bus_of b e.1); props = props }))
          (props-told is_unset device_given e.1 given_names)
          ∙ ap (λ (o : Option Slot).
          Some (record (device_of b e t) { slot = unwrap_or (option_and_then number_in (option_and_then plain_in o)) 0 }))
          (named-at e.1 (codes "slot") (λ is. unread.1.1.0))

  item-object : (e : List ℕ × ℕ) → object_item c e ≡ object_item b e
  item-object e = ap (option_map (object_of c e)) (w.shape.kinds e.1) ∙ by (kind_of b e.1)
    where
      given_names : AllByRecursion (λ (y : List ℕ). bytes_eq name y ≡ false) object_given
      given_names = unread.1.1.1.1.1.1

      by : (o : Option TypeId) → option_map (object_of c e) o ≡ option_map (object_of b e) o
      by None = refl
      by (Some t) =
          ap (λ (props : List Given). Some (record (object_of b e t) { props = props })) (props-told is_nothing object_given e.1 given_names)

  -- ---- all of it

  abbrev all_told : ClockNumbers → List ClockItem → List DeviceItem → List LinkItem → List ObjectItem → List RingItem → Description
  all_told clock clocks devices links objects rings =
      record { clock = clock; clocks = clocks; devices = devices; links = links; objects = objects; rings = rings }

  each-same : {X : Type 0} (f g : List ℕ × ℕ → X) → ((e : List ℕ × ℕ) → f e ≡ g e) → (es : List (List ℕ × ℕ))
      → AllByRecursion (λ (e : List ℕ × ℕ). f e ≡ g e) es
  each-same f g same [] = tt
  each-same f g same (e ∷ es) = (same e, each-same f g same es)

  clocks-told : (description c).clocks ≡ (description b).clocks
  clocks-told =
      ap (filter_map (clock_item_of c)) (w.shape.children PERIPHERAL_BIRTH)
      ∙ filter_map-same (clock_item_of c) (clock_item_of b) (child_entries b PERIPHERAL_BIRTH)
      (all-imply (Stood b) (λ (e : List ℕ × ℕ). clock_item_of c e ≡ clock_item_of b e) item-clock (child_entries b PERIPHERAL_BIRTH) (stood-all b h.order says))

  devices-told : (description c).devices ≡ (description b).devices
  devices-told =
      ap (filter_map (device_item c)) (w.shape.children PERIPHERAL_BIRTH)
      ∙ filter_map-same (device_item c) (device_item b) (child_entries b PERIPHERAL_BIRTH)
      (each-same (device_item c) (device_item b) item-device (child_entries b PERIPHERAL_BIRTH))

  objects-told : (description c).objects ≡ (description b).objects
  objects-told =
      ap (filter_map (object_item c)) (w.shape.children OBJECTS_BIRTH)
      ∙ filter_map-same (object_item c) (object_item b) (child_entries b OBJECTS_BIRTH)
      (each-same (object_item c) (object_item b) item-object (child_entries b OBJECTS_BIRTH))

  pub rest-told : record (description c) { links = [] } ≡ record (description b) { links = [] }
  rest-told =
      let d : Description = description c in
      ap (λ (x : ClockNumbers). all_told x d.clocks d.devices [] d.objects d.rings) clock-told
      ∙ ap (λ (x : List ClockItem). all_told (description b).clock x d.devices [] d.objects d.rings) clocks-told
      ∙ ap (λ (x : List DeviceItem). all_told (description b).clock (description b).clocks x [] d.objects d.rings) devices-told
      ∙ ap (λ (x : List ObjectItem). all_told (description b).clock (description b).clocks (description b).devices [] x d.rings) objects-told
      ∙ ap (λ (x : List RingItem). all_told (description b).clock (description b).clocks (description b).devices [] (description b).objects x)
      (ap (map ring_item) w.rings)

  -- ---- rows

  pub rows-same : rows_in c ≡ rows_in b
  rows-same =
      ap₂ (λ (us ds : List (List ℕ × ℕ)). flat_map (own_of c) (us ++ ds)) (w.shape.children OBJECTS_BIRTH) (w.shape.children PERIPHERAL_BIRTH)
      ∙ go (owners_of b)
    where
      go : (es : List (List ℕ × ℕ)) → flat_map (own_of c) es ≡ flat_map (own_of b) es
      go [] = refl
      go (e ∷ es) =
          ap₂ (λ (xs ys : List Row). xs ++ ys)
          (ap (λ (o : Option TypeId). map (λ (p : Property). (e, p)) (slots_of (unwrap_or o Object))) (w.shape.kinds e.1)) (go es)

  set-same : (x : ℕ) (y : List ℕ) → is_set c x y ≡ is_set b x y
  set-same x y =
      ap (λ (o : Option TypeId). option_map_or (λ (p : Property). may_set p.access) (option_and_then (λ (t : TypeId). property_named t y) o) false)
      (w.shape.kinds x)

  item-link : (x : ℕ) (y : List ℕ) (u : Slot) → is_live b x ≡ true → Linked (kind_of b) u → link_item c x (y, u) ≡ link_item b x (y, u)
  item-link x y u live l =
      ap (λ (v : Bool). if is_link u && v then option_map (link_to c x y) (target_of u) else None) (set-same x y)
      ∙ ap (λ (o : Option LinkItem). if is_link u && is_set b x y then o else None) (by (target_of u) refl)
    where
      by : (o : Option ℕ) → target_of u ≡ o → option_map (link_to c x y) o ≡ option_map (link_to b x y) o
      by None q = refl
      by (Some k) q =
          ap₂ (λ (path value : List ℕ). Some (record { path = path; property = y; value = value })) (texts x live) (texts k (target-live b u k q l))

  -- another row tells as before
  pub link-other : (r : Row) → is_live b r.0.1 ≡ true → (r.0.1 ≡ n → bytes_eq name (property_name r.1.name) ≡ false) → link_at c r ≡ link_at b r
  link-other r live apart =
      ap (option_and_then (λ (u : Slot). link_item c r.0.1 (property_name r.1.name, u))) (named-at r.0.1 (property_name r.1.name) apart)
      ∙ by (slot_named b r.0.1 (property_name r.1.name)) refl
    where
      by : (o : Option Slot) → slot_named b r.0.1 (property_name r.1.name) ≡ o
          → option_and_then (λ (u : Slot). link_item c r.0.1 (property_name r.1.name, u)) o
          ≡ option_and_then (λ (u : Slot). link_item b r.0.1 (property_name r.1.name, u)) o
      by None q = refl
      by (Some u) q = item-link r.0.1 (property_name r.1.name) u live (linked r.0.1 (property_name r.1.name) u q)

  -- and its own tells the link
  pub link-own : (u : Slot) → pointed m s ≡ u → is_link u ≡ true → target_of u ≡ Some m → is_set b n name ≡ true → is_live b n ≡ true → is_live b m ≡ true
      → option_and_then (λ (v : Slot). link_item c n (name, v)) (slot_named c n name) ≡ Some (link_to b n name m)
  link-own u is link to set live there =
      ap (option_and_then (λ (v : Slot). link_item c n (name, v))) (w.own ∙ ap Some is)
      ∙ ap (λ (t : Bool). if t && is_set c n name then option_map (link_to c n name) (target_of u) else None) link
      ∙ ap (λ (t : Bool). if t then option_map (link_to c n name) (target_of u) else None) (set-same n name ∙ set)
      ∙ ap (option_map (link_to c n name)) to
      ∙ ap₂ (λ (path value : List ℕ). Some (record { path = path; property = name; value = value })) (texts n live) (texts m there)
