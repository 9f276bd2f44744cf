-- Boards whose objects have the same births, types and slots have the same description, where their rings are the same.
use Rattle.std.proofs.Common.{◌≡◌, refl, ap, ap₂, sym, ◌∙◌, ℕ, zero, suc, Bool, true, false, ◌==◌, ◌&&◌, List, [], ◌∷◌, ◌++◌, filter_map, find, length, map, Option, Some, None, is_some, option_map, option_and_then, unwrap_or, codes, decimal}
use Rattle.std.specs.List.{flat_map}
use Rattle.qo_model.proofs.Common.{if◌then◌else◌, option_map_or, bytes_eq, OBJECTS_BIRTH, PERIPHERAL_BIRTH, ROOT_BIRTH, SYSTEM_CLOCK_BIRTH, TypeId, Val, Board, Record, Ring, Slot, plain, child, strong, weak, alias, kind_of, record_of, slot_named, slots_at, target_of, by_depth, births, is_child, path_down_to, path_turn, place_of, clock_of, bus_of, mul_of, div_of, own_period, child_named, strong_in, number_in, plain_in, may_set, property_named, Given}
use Rattle.qo_values.specs.declared.properties.Val.TheVariants as val
use Rattle.qo_model.specs.Properties.{path_text, target_text}
use Rattle.qo_model.specs.declared.properties.Property.{Property}
use Rattle.qo_save.specs.Described.{clock_item, clock_item_of, description, device_given, device_item, device_of, given_in, is_link, is_nothing, is_set, is_unset, link_item, link_items, link_to, object_given, object_item, object_of, prop_under, props_under, ring_item}
use Rattle.qo_save.specs.Description.{ClockItem, ClockNumbers, Description, DeviceItem, LinkItem, ObjectItem, RingItem}
use Rattle.qo_sound_devices.specs.SoundPlaces.{child_entries, child_entry}
use Rattle.qo_ways.proofs.WayLemmas.{steps_to}
use Rattle.qo_good.proofs.ItemLemmas.{all-some, filter_map-same}

-- what a description sees of an object
abbrev pub Frame : Type 0
Frame = ℕ × (TypeId × List (List ℕ × Slot))

abbrev pub frame : Record → Frame
frame r = (r.birth, (r.kind, r.slots))

-- a value under a name, where it is not left out
abbrev pub said_of : (Val → Bool) → List ℕ → Val → Option Given
said_of left_out name v = if left_out v then None else Some (name, v)

abbrev pub said_in : Board → (Val → Bool) → List ℕ → Slot → Option Given
said_in b left_out name s = said_of left_out name (given_in b s)

-- a clock by its numbers, as it is told
abbrev pub item_of : ℕ → ℕ → List ℕ → Option ClockItem
item_of mul div path = if (mul == 1) && (div == 1) then None else Some (record { div = div; mul = mul; path = path })

-- ---- what is read of frames

found-frame : (n : ℕ) (rs : List Record) → option_map frame (find (λ (r : Record). r.birth == n) rs) ≡ find (λ (f : Frame). f.0 == n) (map frame rs)
found-frame n [] = refl
found-frame n (r ∷ rs) = go (r.birth == n) refl (found-frame n rs)
  where
    go : (t : Bool) → (r.birth == n) ≡ t → option_map frame (find (λ (x : Record). x.birth == n) rs) ≡ find (λ (f : Frame). f.0 == n) (map frame rs)
        → option_map frame (find (λ (x : Record). x.birth == n) (r ∷ rs)) ≡ find (λ (f : Frame). f.0 == n) (map frame (r ∷ rs))
    go true q rest = rw q refl
    go false q rest = rw q rest

slots-frame : (o : Option Record) → option_map_or (λ (r : Record). r.slots) o [] ≡ option_map_or (λ (f : Frame). f.1.1) (option_map frame o) []
slots-frame None = refl
slots-frame (Some r) = refl

kind-frame : (o : Option Record) → option_map (λ (r : Record). r.kind) o ≡ option_map (λ (f : Frame). f.1.0) (option_map frame o)
kind-frame None = refl
kind-frame (Some r) = refl

abbrev place_by : ℕ → Frame → Option (ℕ × List ℕ)
place_by n f = option_map (λ (s : List ℕ × Slot). (f.0, s.0)) (find (λ (s : List ℕ × Slot). is_child n s.1) f.1.1)

place-frame : (n : ℕ) (rs : List Record)
    → option_and_then (λ (r : Record). place_by n (frame r)) (find (λ (r : Record). is_some (place_by n (frame r))) rs)
    ≡ option_and_then (place_by n) (find (λ (f : Frame). is_some (place_by n f)) (map frame rs))
place-frame n [] = refl
place-frame n (r ∷ rs) = go (is_some (place_by n (frame r))) refl (place-frame n rs)
  where
    go : (t : Bool) → is_some (place_by n (frame r)) ≡ t
        → option_and_then (λ (x : Record). place_by n (frame x)) (find (λ (x : Record). is_some (place_by n (frame x))) rs)
        ≡ option_and_then (place_by n) (find (λ (f : Frame). is_some (place_by n f)) (map frame rs))
        → option_and_then (λ (x : Record). place_by n (frame x)) (find (λ (x : Record). is_some (place_by n (frame x))) (r ∷ rs))
        ≡ option_and_then (place_by n) (find (λ (f : Frame). is_some (place_by n f)) (map frame (r ∷ rs)))
    go true q rest = rw q refl
    go false q rest = rw q rest

births-frame : (rs : List Record) → map (λ (r : Record). r.birth) rs ≡ map (λ (f : Frame). f.0) (map frame rs)
births-frame [] = refl
births-frame (r ∷ rs) = ap (λ (ns : List ℕ). r.birth ∷ ns) (births-frame rs)

-- the steps down to an object, by one more of them
turn-root : (b : Board) (f : ℕ → Option (List ℕ)) (n : ℕ) → (n == ROOT_BIRTH) ≡ true → path_turn b f n ≡ Some []
turn-root b f n q = rw (path_turn, q) refl

turn-none : (b : Board) (f : ℕ → Option (List ℕ)) (n : ℕ) → (n == ROOT_BIRTH) ≡ false → place_of b n ≡ None → path_turn b f n ≡ None
turn-none b f n q r = rw (path_turn, q, r) refl

turn-some : (b : Board) (f : ℕ → Option (List ℕ)) (n : ℕ) (u : ℕ × List ℕ) → (n == ROOT_BIRTH) ≡ false → place_of b n ≡ Some u
    → path_turn b f n ≡ option_map (λ (way : List ℕ). way ++ 47 ∷ u.1) (f u.0)
turn-some b f n u q r = rw (path_turn, q, r) refl

module _ (b c : Board) (same : map frame b.records ≡ map frame c.records) where
  pub slots-same : (n : ℕ) → slots_at b n ≡ slots_at c n
  slots-same n =
      slots-frame (record_of b n)
      ∙ ap (λ (o : Option Frame). option_map_or (λ (f : Frame). f.1.1) o [])
      (found-frame n b.records ∙ ap (find (λ (f : Frame). f.0 == n)) same ∙ sym (found-frame n c.records))
      ∙ sym (slots-frame (record_of c n))

  pub kinds-same : (n : ℕ) → kind_of b n ≡ kind_of c n
  kinds-same n =
      kind-frame (record_of b n)
      ∙ ap (option_map (λ (f : Frame). f.1.0))
      (found-frame n b.records ∙ ap (find (λ (f : Frame). f.0 == n)) same ∙ sym (found-frame n c.records))
      ∙ sym (kind-frame (record_of c n))

  pub places-same : (n : ℕ) → place_of b n ≡ place_of c n
  places-same n =
      place-frame n b.records ∙ ap (λ (fs : List Frame). option_and_then (place_by n) (find (λ (f : Frame). is_some (place_by n f)) fs)) same
      ∙ sym (place-frame n c.records)

  births-same : births b ≡ births c
  births-same = births-frame b.records ∙ ap (map (λ (f : Frame). f.0)) same ∙ sym (births-frame c.records)

  steps-same : (depth n : ℕ) → by_depth (path_turn b) (λ _. None) depth n ≡ by_depth (path_turn c) (λ _. None) depth n
  steps-same zero n = refl
  steps-same (suc depth) n = go (n == ROOT_BIRTH) refl (place_of c n) refl (steps-same depth)
    where
      go : (t : Bool) → (n == ROOT_BIRTH) ≡ t → (o : Option (ℕ × List ℕ)) → place_of c n ≡ o
          → ((m : ℕ) → by_depth (path_turn b) (λ _. None) depth m ≡ by_depth (path_turn c) (λ _. None) depth m)
          → by_depth (path_turn b) (λ _. None) (suc depth) n ≡ by_depth (path_turn c) (λ _. None) (suc depth) n
      go true q o r rest = turn-root b (steps_to b depth) n q ∙ sym (turn-root c (steps_to c depth) n q)
      go false q None r rest = turn-none b (steps_to b depth) n q (places-same n ∙ r) ∙ sym (turn-none c (steps_to c depth) n q r)
      go false q (Some u) r rest =
          turn-some b (steps_to b depth) n u q (places-same n ∙ r) ∙ ap (option_map (λ (way : List ℕ). way ++ 47 ∷ u.1)) (rest u.0)
          ∙ sym (turn-some c (steps_to c depth) n u q r)

  ways-same : (n : ℕ) → path_down_to b n ≡ path_down_to c n
  unfolding path_down_to
  ways-same n =
      steps-same (suc (length (births b))) n ∙ ap (λ (ns : List ℕ). by_depth (path_turn c) (λ _. None) (suc (length ns)) n) births-same

  pub texts-same : (n : ℕ) → path_text b n ≡ path_text c n
  texts-same n =
      ap (λ (o : Option (List ℕ)). unwrap_or (if n == ROOT_BIRTH then Some (codes "/") else o) (codes "detached:" ++ decimal n)) (ways-same n)

  targets-same : (o : Option ℕ) → target_text b o ≡ target_text c o
  targets-same None = refl
  targets-same (Some m) = texts-same m

  named-same : (n : ℕ) (name : List ℕ) → slot_named b n name ≡ slot_named c n name
  named-same n name =
      ap (λ (xs : List (List ℕ × Slot)). option_map (λ (s : List ℕ × Slot). s.1) (find (λ (s : List ℕ × Slot). bytes_eq s.0 name) xs)) (slots-same n)

  numbers-same : (n : ℕ) (name : List ℕ) (first : ℕ)
      → unwrap_or (option_and_then number_in (option_and_then plain_in (slot_named b n name))) first
      ≡ unwrap_or (option_and_then number_in (option_and_then plain_in (slot_named c n name))) first
  numbers-same n name first =
      ap (λ (o : Option Slot). unwrap_or (option_and_then number_in (option_and_then plain_in o)) first) (named-same n name)

  entries-same : (n : ℕ) → child_entries b n ≡ child_entries c n
  entries-same n = ap (filter_map child_entry) (slots-same n)

  -- ---- items

  given-same : (s : Slot) → given_in b s ≡ given_in c s
  given-same (plain v) = refl
  given-same (child m) = refl
  given-same (strong t target) = ap val.Text (targets-same target)
  given-same (weak t target) = refl
  given-same (alias m of) = refl

  props-same : (left_out : Val → Bool) (names : List (List ℕ)) (n : ℕ) → props_under b left_out names n ≡ props_under c left_out names n
  props-same left_out names n =
      filter_map-same (prop_under b left_out n) (prop_under c left_out n) names
      (all-some (λ (name : List ℕ). prop_under b left_out n name ≡ prop_under c left_out n name) one names)
    where
      one : (name : List ℕ) → prop_under b left_out n name ≡ prop_under c left_out n name
      one name = by (slot_named b n name) ∙ ap (option_and_then (said_in c left_out name)) (named-same n name)
        where
          by : (o : Option Slot) → option_and_then (said_in b left_out name) o ≡ option_and_then (said_in c left_out name) o
          by None = refl
          by (Some s) = ap (said_of left_out name) (given-same s)

  clocks-same : (e : List ℕ × ℕ) → clock_item_of b e ≡ clock_item_of c e
  clocks-same e = ap (λ (o : Option Slot). option_and_then (clock_item b) (option_and_then child_named o)) (named-same e.1 (codes "clk")) ∙ by (clock_of c e.1)
    where
      by : (o : Option ℕ) → option_and_then (clock_item b) o ≡ option_and_then (clock_item c) o
      by None = refl
      by (Some k) =
          ap (λ (m : ℕ). item_of m (div_of b k) (path_text b k)) (numbers-same k (codes "mul") 1)
          ∙ ap (λ (v : ℕ). item_of (mul_of c k) v (path_text b k)) (numbers-same k (codes "div") 1)
          ∙ ap (item_of (mul_of c k) (div_of c k)) (texts-same k)

  devices-same : (e : List ℕ × ℕ) → device_item b e ≡ device_item c e
  devices-same e = ap (option_map (device_of b e)) (kinds-same e.1) ∙ by (kind_of c e.1)
    where
      by : (o : Option TypeId) → option_map (device_of b e) o ≡ option_map (device_of c e) o
      by None = refl
      by (Some t) =
          let bus : target_text b (bus_of b e.1) ≡ target_text c (bus_of c e.1) =
          ap (λ (o : Option Slot). target_text b (option_and_then strong_in o)) (named-same e.1 (codes "parent_bus")) ∙ targets-same (bus_of c e.1) in
          ap (λ (path : List ℕ). Some (record (device_of b e t) { bus = path })) bus
          ∙ ap (λ (props : List Given). Some (record (device_of b e t) { bus = target_text c (bus_of c e.1); props = props }))
          (props-same is_unset device_given e.1)
          ∙ ap (λ (n : ℕ). Some (record (device_of c e t) { slot = n })) (numbers-same e.1 (codes "slot") 0)

  objects-same : (e : List ℕ × ℕ) → object_item b e ≡ object_item c e
  objects-same e = ap (option_map (object_of b e)) (kinds-same e.1) ∙ by (kind_of c e.1)
    where
      by : (o : Option TypeId) → option_map (object_of b e) o ≡ option_map (object_of c e) o
      by None = refl
      by (Some t) = ap (λ (props : List Given). Some (record (object_of b e t) { props = props })) (props-same is_nothing object_given e.1)

  links-same : (e : List ℕ × ℕ) → link_items b e ≡ link_items c e
  links-same e =
      ap (filter_map (link_item b e.1)) (slots-same e.1)
      ∙ filter_map-same (link_item b e.1) (link_item c e.1) (slots_at c e.1)
      (all-some (λ (s : List ℕ × Slot). link_item b e.1 s ≡ link_item c e.1 s) one (slots_at c e.1))
    where
      set : (name : List ℕ) → is_set b e.1 name ≡ is_set c e.1 name
      set name =
          ap (λ (o : Option TypeId). option_map_or (λ (p : Property). may_set p.access) (option_and_then (λ (t : TypeId). property_named t name) o) false)
          (kinds-same e.1)

      one : (s : List ℕ × Slot) → link_item b e.1 s ≡ link_item c e.1 s
      one s =
          ap (λ (u : Bool). if is_link s.1 && u then option_map (link_to b e.1 s.0) (target_of s.1) else None) (set s.0)
          ∙ ap (λ (o : Option LinkItem). if is_link s.1 && is_set c e.1 s.0 then o else None) (by (target_of s.1))
        where
          by : (o : Option ℕ) → option_map (link_to b e.1 s.0) o ≡ option_map (link_to c e.1 s.0) o
          by None = refl
          by (Some m) =
              ap₂ (λ (path value : List ℕ). Some (record { path = path; property = s.0; value = value })) (texts-same e.1) (texts-same m)

  flat-same : (es : List (List ℕ × ℕ)) → flat_map (link_items b) es ≡ flat_map (link_items c) es
  flat-same [] = refl
  flat-same (e ∷ es) = ap₂ (λ (xs ys : List LinkItem). xs ++ ys) (links-same e) (flat-same es)

  -- ---- all of it

  abbrev told : ClockNumbers → List ClockItem → List DeviceItem → List LinkItem → List ObjectItem → List RingItem → Description
  told clock clocks devices links objects rings =
      record { clock = clock; clocks = clocks; devices = devices; links = links; objects = objects; rings = rings }

  each : {X : Type 0} (f g : List ℕ × ℕ → Option X) → ((e : List ℕ × ℕ) → f e ≡ g e) → (n : ℕ)
      → filter_map f (child_entries b n) ≡ filter_map g (child_entries c n)
  each f g alike n =
      ap (filter_map f) (entries-same n)
      ∙ filter_map-same f g (child_entries c n) (all-some (λ (e : List ℕ × ℕ). f e ≡ g e) alike (child_entries c n))

  pub description-same : b.rings ≡ c.rings → description b ≡ description c
  description-same rings =
      ap (λ (n : ℕ). told (record { div = n; mul = mul_of b SYSTEM_CLOCK_BIRTH; period = own_period b SYSTEM_CLOCK_BIRTH }) (description b).clocks
      (description b).devices (description b).links (description b).objects (description b).rings) (numbers-same SYSTEM_CLOCK_BIRTH (codes "div") 1)
      ∙ ap (λ (n : ℕ). told (record { div = div_of c SYSTEM_CLOCK_BIRTH; mul = n; period = own_period b SYSTEM_CLOCK_BIRTH }) (description b).clocks
      (description b).devices (description b).links (description b).objects (description b).rings) (numbers-same SYSTEM_CLOCK_BIRTH (codes "mul") 1)
      ∙ ap (λ (n : ℕ). told (record { div = div_of c SYSTEM_CLOCK_BIRTH; mul = mul_of c SYSTEM_CLOCK_BIRTH; period = n }) (description b).clocks
      (description b).devices (description b).links (description b).objects (description b).rings) (numbers-same SYSTEM_CLOCK_BIRTH (codes "period") 0)
      ∙ ap (λ (xs : List ClockItem). told (description c).clock xs (description b).devices (description b).links (description b).objects (description b).rings)
      (each (clock_item_of b) (clock_item_of c) clocks-same PERIPHERAL_BIRTH)
      ∙ ap (λ (xs : List DeviceItem). told (description c).clock (description c).clocks xs (description b).links (description b).objects (description b).rings)
      (each (device_item b) (device_item c) devices-same PERIPHERAL_BIRTH)
      ∙ ap (λ (xs : List LinkItem). told (description c).clock (description c).clocks (description c).devices xs (description b).objects (description b).rings)
      (ap₂ (λ (xs ys : List (List ℕ × ℕ)). flat_map (link_items b) (xs ++ ys)) (entries-same OBJECTS_BIRTH) (entries-same PERIPHERAL_BIRTH)
      ∙ flat-same (child_entries c OBJECTS_BIRTH ++ child_entries c PERIPHERAL_BIRTH))
      ∙ ap (λ (xs : List ObjectItem). told (description c).clock (description c).clocks (description c).devices (description c).links xs (description b).rings)
      (each (object_item b) (object_item c) objects-same OBJECTS_BIRTH)
      ∙ ap (λ (xs : List Ring). told (description c).clock (description c).clocks (description c).devices (description c).links (description c).objects
      (map ring_item xs)) rings
