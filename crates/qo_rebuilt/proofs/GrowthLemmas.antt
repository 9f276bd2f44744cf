-- A board with more objects tells the same of those that were there.
use Rattle.std.proofs.Common.{◌≡◌, refl, ap, ap₂, sym, subst, ◌∙◌, ℕ, zero, suc, ◌<◌, Bool, true, false, ◌==◌, ◌&&◌, List, [], ◌∷◌, ◌++◌, filter_map, find, length, Option, Some, None, is_some, option_map, option_and_then, unwrap_or, codes, decimal, arith}
use Rattle.std.proofs.lemmas.Bool.{eqb-true}
use Rattle.std.proofs.lemmas.Option.{same_Some}
use Rattle.qo_model.proofs.Common.{if◌then◌else◌, option_map_or, bytes_eq, type_name, ROOT_BIRTH, SYSTEM_CLOCK_BIRTH, TypeId, Val, Board, Record, Slot, plain, child, strong, weak, alias, is_live, kind_of, record_of, slot_named, slots_at, target_of, births, path_down_to, path_turn, place_of, clock_of, bus_of, mul_of, div_of, own_period, child_named, strong_in, number_in, plain_in, may_set, property_named, Given}
use Rattle.qo_values.specs.declared.properties.Val.TheVariants as val
use Rattle.qo_values.proofs.ListLemmas.{all-imply, found-has}
use Rattle.qo_model.proofs.StepLemmas.{is_some-map}
use Rattle.qo_model.proofs.TreeLemmas.{paths_lem}
use Rattle.qo_model.specs.Properties.{path_text, target_text}
use Rattle.qo_model.specs.declared.properties.Property.{Property}
use Rattle.qo_save.specs.Described.{clock_item, clock_item_of, clock_numbers, device_given, device_item, device_of, given_in, is_describable, is_link, is_nothing, is_set, is_unset, link_item, link_items, link_to, object_given, object_item, object_of, prop_under, props_under}
use Rattle.qo_save.specs.Description.{ClockNumbers, LinkItem}
use Rattle.qo_sound.proofs.FirmBoardLemmas.{Linked}
use Rattle.qo_sound_devices.specs.SoundPlaces.{child_entries, has_entry}
use Rattle.qo_sound_devices.proofs.LocationLemmas.{place-named}
use Rattle.qo_sound_devices.proofs.PlacesLemmas.{linked-at, of-live, owner-live}
use Rattle.qo_ways.specs.Ways.{IsInOrder}
use Rattle.qo_ways.proofs.WayLemmas.{Above, root-steps, steps_to, turn-above}
use Rattle.qo_good.proofs.BusLemmas.{listed-entry}
use Rattle.qo_good.proofs.ItemLemmas.{all-some, filter_map-same}
use Rattle.qo_good.proofs.PlaceLemmas.{below, firm, older, place-there, root-way, settled, sound}
use Rattle.qo_rebuilt.proofs.FrameLemmas.{item_of, said_in, said_of}

-- what has a type is there
pub kind-live : (b : Board) (n : ℕ) (t : TypeId) → kind_of b n ≡ Some t → is_live b n ≡ true
kind-live b n t its = sym (is_some-map (λ (r : Record). r.kind) (record_of b n)) ∙ ap is_some its

linked-live : (b : Board) (n : ℕ) → is_some (kind_of b n) ≡ true → is_live b n ≡ true
linked-live b n some = sym (is_some-map (λ (r : Record). r.kind) (record_of b n)) ∙ some

pub target-live : (b : Board) (s : Slot) (m : ℕ) → target_of s ≡ Some m → Linked (kind_of b) s → is_live b m ≡ true
target-live b (plain v) m e l = absurd (cc)
target-live b (child k) m e l = subst (λ (x : ℕ). is_live b x ≡ true) (same_Some k m e) (linked-live b k l)
target-live b (strong t None) m e l = absurd (cc)
target-live b (strong t (Some k)) m e l = subst (λ (x : ℕ). is_live b x ≡ true) (same_Some k m e) (of-live b (type_name t) k l)
target-live b (weak t None) m e l = absurd (cc)
target-live b (weak t (Some k)) m e l = subst (λ (x : ℕ). is_live b x ≡ true) (same_Some k m e) (of-live b (type_name t) k l)
target-live b (alias k of) m e l = absurd (cc)

-- ---- the way down to each object

module _ (b : Board) (h : IsInOrder b) (says : is_describable b ≡ true) where
  way-there : (fuel n : ℕ) → n < fuel → is_live b n ≡ true → (q : List ℕ) × (path_down_to b n ≡ Some q)
  way-there zero n low live = absurd (omega (arith, low))
  way-there (suc fuel) n low live = go (n == ROOT_BIRTH) refl (λ m l v. way-there fuel m l v)
    where
      go : (t : Bool) → (n == ROOT_BIRTH) ≡ t → ((m : ℕ) → m < fuel → is_live b m ≡ true → (q : List ℕ) × (path_down_to b m ≡ Some q))
          → (q : List ℕ) × (path_down_to b n ≡ Some q)
      go true p rest = ([], subst (λ (m : ℕ). path_down_to b m ≡ Some []) (sym (eqb-true n ROOT_BIRTH p)) (root-way b h))
      go false p rest =
          let (u, place) = settled b h says n live p in
          let on : has_entry (u.1, n) (child_entries b u.0) ≡ true = place-there b h n u place in
          let old : u.0 < n = older b h u.0 (u.1, n) on in
          let (above, is) = rest u.0 (omega (arith, old, low)) (owner-live b u.0 n (listed-entry (u.1, n) (child_entries b u.0) on)) in
          (above ++ 47 ∷ u.1, below b h u.0 n u.1 above p on is)

module _ (b c : Board) (h : IsInOrder b) (k : IsInOrder c)
    (grows : (p : ℕ) (e : List ℕ × ℕ) → has_entry e (child_entries b p) ≡ true → has_entry e (child_entries c p) ≡ true) where
  pub places-kept : (n : ℕ) (u : ℕ × List ℕ) → place_of b n ≡ Some u → place_of c n ≡ Some u
  places-kept n (p, name) e = place-named c (firm c k) p n name (grows p (name, n) (place-there b h n (p, name) e))

  steps-kept : (depth n : ℕ) (q : List ℕ) → steps_to b depth n ≡ Some q → path_down_to c n ≡ Some q
  steps-kept zero n q e = absurd (cc)
  steps-kept (suc depth) n q e = go (n == ROOT_BIRTH) refl (λ m r f. steps-kept depth m r f)
    where
      go : (t : Bool) → (n == ROOT_BIRTH) ≡ t → ((m : ℕ) (r : List ℕ) → steps_to b depth m ≡ Some r → path_down_to c m ≡ Some r) → path_down_to c n ≡ Some q
      go true p rest =
          subst (λ (m : ℕ). path_down_to c m ≡ Some q) (sym (eqb-true n ROOT_BIRTH p))
          (root-way c k ∙ ap Some (sym (root-steps b depth n q p e)))
      go false p rest =
          let a : Above b (steps_to b depth) n q = turn-above b (steps_to b depth) n q p e in
          let place : place_of c n ≡ Some a.parent = places-kept n a.parent a.place in
          let on : path_turn c (path_down_to c) n ≡ Some (a.before ++ 47 ∷ a.parent.1) =
          rw (path_turn, p, place) (ap (option_map (λ (way : List ℕ). way ++ 47 ∷ a.parent.1)) (rest a.parent.0 a.before a.above)) in
          paths_lem.steps_by_parent c (sound c k) n ∙ on ∙ ap Some (sym a.is)

  ways-kept : (n : ℕ) (q : List ℕ) → path_down_to b n ≡ Some q → path_down_to c n ≡ Some q
  unfolding path_down_to
  ways-kept n q e = steps-kept (suc (length (births b))) n q e

  pub texts-kept : is_describable b ≡ true → (m : ℕ) → is_live b m ≡ true → path_text c m ≡ path_text b m
  texts-kept says m live =
      let (q, is) = way-there b h says (suc m) m (omega arith) live in
      let same : path_down_to c m ≡ path_down_to b m = ways-kept m q is ∙ sym is in
      ap (λ (o : Option (List ℕ)). unwrap_or (if m == ROOT_BIRTH then Some (codes "/") else o) (codes "detached:" ++ decimal m)) same

-- ---- items

abbrev slot_in : List ℕ → List (List ℕ × Slot) → Option Slot
slot_in name xs = option_map (λ (s : List ℕ × Slot). s.1) (find (λ (s : List ℕ × Slot). bytes_eq s.0 name) xs)

module _ (b c : Board) (h : IsInOrder b) (texts : (m : ℕ) → is_live b m ≡ true → path_text c m ≡ path_text b m) where
  pub given-kept : (s : Slot) → Linked (kind_of b) s → given_in c s ≡ given_in b s
  given-kept (plain v) l = refl
  given-kept (child m) l = refl
  given-kept (strong t None) l = refl
  given-kept (strong t (Some m)) l = ap val.Text (texts m (of-live b (type_name t) m l))
  given-kept (weak t target) l = refl
  given-kept (alias m of) l = refl

  pub held-kept : (s : Slot) → Linked (kind_of b) s → target_text c (strong_in s) ≡ target_text b (strong_in s)
  held-kept (plain v) l = refl
  held-kept (child m) l = refl
  held-kept (strong t None) l = refl
  held-kept (strong t (Some m)) l = texts m (of-live b (type_name t) m l)
  held-kept (weak t target) l = refl
  held-kept (alias m of) l = refl

  module _ (n : ℕ) (slots : slots_at c n ≡ slots_at b n) where
    slot-kept : (name : List ℕ) → slot_named c n name ≡ slot_named b n name
    slot-kept name = ap (slot_in name) slots

    pub linked-slot : (name : List ℕ) (s : Slot) → slot_named b n name ≡ Some s → Linked (kind_of b) s
    linked-slot name s e = go (find (λ (x : List ℕ × Slot). bytes_eq x.0 name) (slots_at b n)) refl e
      where
        go : (o : Option (List ℕ × Slot)) → find (λ (x : List ℕ × Slot). bytes_eq x.0 name) (slots_at b n) ≡ o
            → option_map (λ (x : List ℕ × Slot). x.1) (find (λ (x : List ℕ × Slot). bytes_eq x.0 name) (slots_at b n)) ≡ Some s → Linked (kind_of b) s
        go None q f = absurd (let no : None ≡ Some s = sym (ap (option_map (λ (x : List ℕ × Slot). x.1)) q) ∙ f in cc)
        go (Some x) q f =
            subst (Linked (kind_of b)) (same_Some x.1 s (sym (ap (option_map (λ (y : List ℕ × Slot). y.1)) q) ∙ f))
            (found-has (λ (y : List ℕ × Slot). Linked (kind_of b) y.1) (λ (y : List ℕ × Slot). bytes_eq y.0 name) (slots_at b n) x
            (linked-at b (firm b h) n) q)

    number-kept : (name : List ℕ) (first : ℕ)
        → unwrap_or (option_and_then number_in (option_and_then plain_in (slot_named c n name))) first
        ≡ unwrap_or (option_and_then number_in (option_and_then plain_in (slot_named b n name))) first
    number-kept name first =
        ap (λ (o : Option Slot). unwrap_or (option_and_then number_in (option_and_then plain_in o)) first) (slot-kept name)

    props-kept : (left_out : Val → Bool) (names : List (List ℕ)) → props_under c left_out names n ≡ props_under b left_out names n
    props-kept left_out names =
        filter_map-same (prop_under c left_out n) (prop_under b left_out n) names
        (all-some (λ (name : List ℕ). prop_under c left_out n name ≡ prop_under b left_out n name) one names)
      where
        one : (name : List ℕ) → prop_under c left_out n name ≡ prop_under b left_out n name
        one name = ap (option_and_then (said_in c left_out name)) (slot-kept name) ∙ by (slot_named b n name) refl
          where
            by : (o : Option Slot) → slot_named b n name ≡ o → option_and_then (said_in c left_out name) o ≡ option_and_then (said_in b left_out name) o
            by None q = refl
            by (Some s) q = ap (said_of left_out name) (given-kept s (linked-slot name s q))

    bus-kept : target_text c (bus_of c n) ≡ target_text b (bus_of b n)
    bus-kept =
        ap (λ (o : Option Slot). target_text c (option_and_then strong_in o)) (slot-kept (codes "parent_bus"))
        ∙ by (slot_named b n (codes "parent_bus")) refl
      where
        by : (o : Option Slot) → slot_named b n (codes "parent_bus") ≡ o
            → target_text c (option_and_then strong_in o) ≡ target_text b (option_and_then strong_in o)
        by None q = refl
        by (Some s) q = held-kept s (linked-slot (codes "parent_bus") s q)

    -- a clock
    pub factors-kept : is_live b n ≡ true → clock_item c n ≡ clock_item b n
    factors-kept live =
        ap (λ (m : ℕ). item_of m (div_of c n) (path_text c n)) (number-kept (codes "mul") 1)
        ∙ ap (λ (v : ℕ). item_of (mul_of b n) v (path_text c n)) (number-kept (codes "div") 1)
        ∙ ap (item_of (mul_of b n) (div_of b n)) (texts n live)

  -- an entry whose object has the same type and slots
  module _ (e : List ℕ × ℕ) (live : is_live b e.1 ≡ true) (slots : slots_at c e.1 ≡ slots_at b e.1) (kinds : kind_of c e.1 ≡ kind_of b e.1) where
    pub object-kept : object_item c e ≡ object_item b e
    object-kept = ap (option_map (object_of c e)) kinds ∙ by (kind_of b e.1)
      where
        by : (o : Option TypeId) → option_map (object_of c e) o ≡ option_map (object_of b e) o
        by None = refl
        by (Some t) =
            ap (λ (props : List Given). Some (record (object_of b e t) { props = props })) (props-kept e.1 slots is_nothing object_given)

    pub device-kept : device_item c e ≡ device_item b e
    device-kept = ap (option_map (device_of c e)) kinds ∙ by (kind_of b e.1)
      where
        by : (o : Option TypeId) → option_map (device_of c e) o ≡ option_map (device_of b e) o
        by None = refl
        by (Some t) =
            ap (λ (path : List ℕ). Some (record (device_of c e t) { bus = path })) (bus-kept e.1 slots)
            ∙ ap (λ (props : List Given). Some (record (device_of c e t) { bus = target_text b (bus_of b e.1); props = props }))
            (props-kept e.1 slots is_unset device_given)
            ∙ ap (λ (n : ℕ). Some (record (device_of b e t) { slot = n })) (number-kept e.1 slots (codes "slot") 0)

    pub links-kept : link_items c e ≡ link_items b e
    links-kept =
        ap (filter_map (link_item c e.1)) slots
        ∙ filter_map-same (link_item c e.1) (link_item b e.1) (slots_at b e.1)
        (all-imply (λ (s : List ℕ × Slot). Linked (kind_of b) s.1) (λ (s : List ℕ × Slot). link_item c e.1 s ≡ link_item b e.1 s) one (slots_at b e.1)
        (linked-at b (firm b h) e.1))
      where
        set : (name : List ℕ) → is_set c e.1 name ≡ is_set b e.1 name
        set name =
            ap (λ (o : Option TypeId). option_map_or (λ (p : Property). may_set p.access) (option_and_then (λ (t : TypeId). property_named t name) o) false)
            kinds

        one : (s : List ℕ × Slot) → Linked (kind_of b) s.1 → link_item c e.1 s ≡ link_item b e.1 s
        one s l =
            ap (λ (u : Bool). if is_link s.1 && u then option_map (link_to c e.1 s.0) (target_of s.1) else None) (set s.0)
            ∙ ap (λ (o : Option LinkItem). if is_link s.1 && is_set b e.1 s.0 then o else None) (by (target_of s.1) refl)
          where
            by : (o : Option ℕ) → target_of s.1 ≡ o → option_map (link_to c e.1 s.0) o ≡ option_map (link_to b e.1 s.0) o
            by None q = refl
            by (Some m) q =
                ap₂ (λ (path value : List ℕ). Some (record { path = path; property = s.0; value = value })) (texts e.1 live)
                (texts m (target-live b s.1 m q l))

    pub clock-kept : ((n : ℕ) → clock_of b e.1 ≡ Some n → (is_live b n ≡ true) × (slots_at c n ≡ slots_at b n)) → clock_item_of c e ≡ clock_item_of b e
    clock-kept clocks =
        ap (λ (o : Option Slot). option_and_then (clock_item c) (option_and_then child_named o)) (slot-kept e.1 slots (codes "clk"))
        ∙ by (clock_of b e.1) refl
      where
        by : (o : Option ℕ) → clock_of b e.1 ≡ o → option_and_then (clock_item c) o ≡ option_and_then (clock_item b) o
        by None q = refl
        by (Some n) q = let (there, same) = clocks n q in factors-kept n same there

  pub system-kept : slots_at c SYSTEM_CLOCK_BIRTH ≡ slots_at b SYSTEM_CLOCK_BIRTH → clock_numbers c ≡ clock_numbers b
  system-kept slots =
      ap (λ (n : ℕ). numbers_of n (mul_of c SYSTEM_CLOCK_BIRTH) (own_period c SYSTEM_CLOCK_BIRTH)) (number-kept SYSTEM_CLOCK_BIRTH slots (codes "div") 1)
      ∙ ap (λ (n : ℕ). numbers_of (div_of b SYSTEM_CLOCK_BIRTH) n (own_period c SYSTEM_CLOCK_BIRTH)) (number-kept SYSTEM_CLOCK_BIRTH slots (codes "mul") 1)
      ∙ ap (numbers_of (div_of b SYSTEM_CLOCK_BIRTH) (mul_of b SYSTEM_CLOCK_BIRTH)) (number-kept SYSTEM_CLOCK_BIRTH slots (codes "period") 0)
    where
      numbers_of : ℕ → ℕ → ℕ → ClockNumbers
      numbers_of div mul per = record { div = div; mul = mul; period = per }
