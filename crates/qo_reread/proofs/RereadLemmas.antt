-- The law: the description of a board is read back from its text.
use Rattle.std.proofs.Common.{◌≡◌, refl, sym, subst, rules, ℕ, ◌<◌, ◌≤◌, ◌^◌, ◌==◌, ◌&&◌, nat_le, Bool, true, false, cond, List, [], ◌∷◌, ◌++◌, filter_map, find, map, Option, Some, None, option_map, option_and_then, unwrap_or, Less, codes, arith, IsUtf8}
use Rattle.std.specs.Cmp.Lexicographic.{slice_cmp}
use Rattle.std.specs.Int.{is_power_of_two}
use Rattle.std.specs.List.{flat_map}
use Rattle.std.specs.List.Sorted.{IsStrictlySortedBy}
use Rattle.std.specs.Ordering.{nat_cmp}
use Rattle.std.proofs.lemmas.Bool.{and_parts, leb-true}
use Rattle.std.proofs.lemmas.Option.{same_Some}
use Rattle.std.proofs.lemmas.Slice.Eq.{bytes_eq-Decides}
use Rattle.qo_values.specs.Kinds.{type_name}
use Rattle.qo_values.specs.Ids.{is_id}
use Rattle.qo_values.specs.Rings.{is_ring_size}
use Rattle.qo_values.specs.declared.births.TheConstants.{SYSTEM_CLOCK_BIRTH}
use Rattle.qo_values.specs.declared.limits.TheConstants.{RING_SIZE_MAX}
use Rattle.qo_values.specs.declared.properties.Val.{Val}
use Rattle.qo_values.specs.declared.properties.Val.TheVariants as val
use Rattle.qo_values.proofs.EachLemmas.{each}
use Rattle.qo_model.proofs.Common.{⊤, AllByRecursion, option_map_or, bytes_eq, OBJECTS_BIRTH, PERIPHERAL_BIRTH, TypeId, Board, Ring, Slot, plain, child, strong, weak, alias, kind_of, slot_named, slots_at, target_of}
use Rattle.qo_model.specs.Clocks.{div_of, mul_of}
use Rattle.qo_model.specs.Devices.{bus_of, bus_slot_of, clock_of, number_at, number_in, plain_at, plain_in}
use Rattle.qo_model.specs.Objects.{Given}
use Rattle.qo_model.specs.Properties.{may_set, property_named}
use Rattle.qo_model.specs.RowNames.{property_name}
use Rattle.qo_model.specs.Types.{slots_of}
use Rattle.qo_model.specs.declared.properties.Property.{Property}
use Rattle.qo_json.specs.Order.{NamesRise}
use Rattle.qo_replies.proofs.QuoteLemmas.{small}
use Rattle.qo_save.specs.Described.{clock_item, clock_item_of, described, description, device_given, device_item, device_of, factors_of, given_in, is_describable, is_link, is_nothing, is_set, is_unset, link_item, link_items, link_to, object_given, object_item, object_of, prop_under, props_under, ring_item}
use Rattle.qo_save.specs.Description.{ClockItem, Description, description_text, DeviceItem, LinkItem, ObjectItem}
use Rattle.qo_save.specs.Shape.{description_from}
use Rattle.qo_save.specs.Texts.{ArePropsBack, IsClockItem, IsDeviceItem, IsGivenBack, IsLinkItem, IsObjectItem, IsPropBack, IsRingItem, IsWritable}
use Rattle.qo_save.proofs.DescriptionLemmas.{descriptions_lem}
use Rattle.qo_sound_claims.specs.SoundRings.{IsGoodRing, SoundRings}
use Rattle.qo_sound_devices.specs.SoundPlaces.{child_entries}
use Rattle.qo_sound_order.specs.SoundValues.{HoldsTold, IsTold, SoundValues}
use Rattle.qo_ways.specs.Ways.{IsInOrder}
use Rattle.qo_ways.proofs.NameLemmas.{IsOneStep, IsPlainName, each_plain, id-plain, one-step, rows-one}
use Rattle.qo_reread.specs.Reread.{RereadLaw}
use Rattle.qo_reread.proofs.PathLemmas.{path-utf8, small-bytes, small-utf8, target-utf8}

-- ---- lists

all-append : {X : Type 0} (P : X → Type 0) (xs ys : List X) → AllByRecursion P xs → AllByRecursion P ys → AllByRecursion P (xs ++ ys)
all-append P [] ys h k = k
all-append P (x ∷ xs) ys h k = (h.0, all-append P xs ys h.1 k)

all-mapped : {X Y : Type 0} (Q : X → Type 0) (P : Y → Type 0) (f : X → Option Y) → ((x : X) (y : Y) → Q x → f x ≡ Some y → P y) → (xs : List X)
    → AllByRecursion Q xs → AllByRecursion P (filter_map f xs)
all-mapped Q P f from [] h = tt
all-mapped {X = X} {Y = Y} Q P f from (x ∷ xs) h = go (f x) refl (all-mapped Q P f from xs h.1)
  where
    go : (o : Option Y) → f x ≡ o → AllByRecursion P (filter_map f xs) → AllByRecursion P (filter_map f (x ∷ xs))
    go None q rest = rw q rest
    go (Some y) q rest = rw q (from x y h.0 q, rest)

all-flat : {X Y : Type 0} (Q : X → Type 0) (P : Y → Type 0) (f : X → List Y) → ((x : X) → Q x → AllByRecursion P (f x)) → (xs : List X) → AllByRecursion Q xs
    → AllByRecursion P (flat_map f xs)
all-flat Q P f from [] h = tt
all-flat Q P f from (x ∷ xs) h = all-append P (f x) (flat_map f xs) (from x h.0) (all-flat Q P f from xs h.1)

-- what is made of something that is there
record IsMapped {X Y : Type 0} (f : X → Y) (o : Option X) (y : Y) : Type 0 where
  arg : X
  was : o ≡ Some arg
  is : f arg ≡ y

mapped : {X Y : Type 0} (f : X → Y) (o : Option X) (y : Y) → option_map f o ≡ Some y → IsMapped f o y
mapped f None y e = absurd (cc)
mapped f (Some x) y e = record { arg = x; was = refl; is = same_Some (f x) y e }

record IsGained {X Y : Type 0} (f : X → Option Y) (o : Option X) (y : Y) : Type 0 where
  arg : X
  was : o ≡ Some arg
  is : f arg ≡ Some y

gained : {X Y : Type 0} (f : X → Option Y) (o : Option X) (y : Y) → option_and_then f o ≡ Some y → IsGained f o y
gained f None y e = absurd (cc)
gained f (Some x) y e = record { arg = x; was = refl; is = e }

on-true : {Y : Type 0} (t : Bool) (o : Option Y) (y : Y) → cond t o None ≡ Some y → (t ≡ true) × (o ≡ Some y)
on-true true o y e = (refl, e)
on-true false o y e = absurd (cc)

on-false : {Y : Type 0} (t : Bool) (x y : Y) → cond t None (Some x) ≡ Some y → (t ≡ false) × (x ≡ y)
on-false true x y e = absurd (cc)
on-false false x y e = (refl, same_Some x y e)

-- what is found is one of them, and passes
record IsFound {X : Type 0} (P : X → Type 0) (test : X → Bool) (x : X) : Type 0 where
  holds : P x
  passes : test x ≡ true

find-found : {X : Type 0} (P : X → Type 0) (test : X → Bool) (xs : List X) (x : X) → AllByRecursion P xs → find test xs ≡ Some x → IsFound P test x
find-found P test [] x h e = absurd (cc)
find-found {X = X} P test (y ∷ ys) x h e = go (test y) refl (find-found P test ys x h.1)
  where
    go : (t : Bool) → test y ≡ t → (find test ys ≡ Some x → IsFound P test x) → IsFound P test x
    go true q rest =
        let is : y ≡ x = same_Some y x (rw q at e) in
        subst (λ (z : X). IsFound P test z) is (record { holds = h.0; passes = q })
    go false q rest = rest (rw q at e)

-- ---- what is read of an object

low-or : (o : Option ℕ) (first : ℕ) → ((k : ℕ) → o ≡ Some k → k < 2 ^ 64) → first < 2 ^ 64 → unwrap_or o first < 2 ^ 64
low-or None first h low = low
low-or (Some k) first h low = h k refl

module _ (b : Board) (values : SoundValues b) where
  slot-told : (n : ℕ) (name : List ℕ) (s : Slot) → slot_named b n name ≡ Some s → HoldsTold s
  slot-told n name s e =
      let test : List ℕ × Slot → Bool = λ (x : List ℕ × Slot). bytes_eq x.0 name in
      let k : IsMapped (λ (x : List ℕ × Slot). x.1) (find test (slots_at b n)) s = mapped (λ (x : List ℕ × Slot). x.1) (find test (slots_at b n)) s e in
      subst HoldsTold k.is (find-found (λ (x : List ℕ × Slot). HoldsTold x.1) test (slots_at b n) k.arg (values n) k.was).holds

  plain-told : (s : Slot) (v : Val) → HoldsTold s → plain_in s ≡ Some v → IsTold v
  plain-told (plain w) v h e = subst IsTold (same_Some w v e) h
  plain-told (child m) v h e = absurd (cc)
  plain-told (strong t target) v h e = absurd (cc)
  plain-told (weak t target) v h e = absurd (cc)
  plain-told (alias m property) v h e = absurd (cc)

  number-told : (v : Val) (k : ℕ) → IsTold v → number_in v ≡ Some k → k < 2 ^ 64
  number-told (val.Uint m) k h e = subst (λ (x : ℕ). x < 2 ^ 64) (same_Some m k e) h
  number-told (val.Bool t) k h e = absurd (cc)
  number-told (val.Int z) k h e = absurd (cc)
  number-told (val.Text text) k h e = absurd (cc)
  number-told val.Nothing k h e = absurd (cc)

  number-low : (n : ℕ) (name : List ℕ) (k : ℕ) → number_at b n name ≡ Some k → k < 2 ^ 64
  number-low n name k e =
      let v : IsGained number_in (plain_at b n name) k = gained number_in (plain_at b n name) k e in
      let s : IsGained plain_in (slot_named b n name) v.arg = gained plain_in (slot_named b n name) v.arg v.was in
      number-told v.arg k (plain-told s.arg v.arg (slot-told n name s.arg s.was) s.is) v.is

  mul-low : (c : ℕ) → mul_of b c < 2 ^ 64
  mul-low c = low-or (number_at b c (codes "mul")) 1 (number-low c (codes "mul")) (omega arith)

  div-low : (c : ℕ) → div_of b c < 2 ^ 64
  div-low c = low-or (number_at b c (codes "div")) 1 (number-low c (codes "div")) (omega arith)

-- ---- names

kind-utf8 : (t : TypeId) → IsUtf8 (type_name t)
kind-utf8 t = small-utf8 (type_name t) (each (λ (t : TypeId). small (type_name t) ≡ true) (search rules) t)

-- a name of a link that is set is that of a row
set-utf8 : (b : Board) (n : ℕ) (name : List ℕ) → is_set b n name ≡ true → IsUtf8 name
set-utf8 b n name e = go (kind_of b n) refl
  where
    of : (t : TypeId) (o : Option Property) → property_named t name ≡ o → option_map_or (λ (p : Property). may_set p.access) o false ≡ true → IsUtf8 name
    of t None q k = absurd (let clash : false ≡ true = k in cc)
    of t (Some p) q k =
        let found = find-found IsOneStep (λ (p : Property). bytes_eq (property_name p.name) name) (slots_of t) p (rows-one t) q in
        let is : property_name p.name ≡ name = (bytes_eq-Decides (property_name p.name) name).0 found.passes in
        subst IsUtf8 is (small-utf8 (property_name p.name) (small-bytes (property_name p.name) (one-step (property_name p.name, n) found.holds).1))

    go : (o : Option TypeId) → kind_of b n ≡ o → IsUtf8 name
    go None q = absurd (let clash : false ≡ true = rw q at e in cc)
    go (Some t) q = of t (property_named t name) refl (rw q at e)

-- ---- properties that are given

-- names that rise, of which some are left out
left-above : (f : List ℕ → Option Given) → ((name : List ℕ) (p : Given) → f name ≡ Some p → p.0 ≡ name) → (low : List ℕ) (names : List (List ℕ))
    → AllByRecursion (λ (name : List ℕ). slice_cmp nat_cmp low name ≡ Less) names
    → AllByRecursion (λ (name : List ℕ). slice_cmp nat_cmp low name ≡ Less) (map (λ (p : Given). p.0) (filter_map f names))
left-above f own low [] h = tt
left-above f own low (name ∷ names) h = go (f name) refl (left-above f own low names h.1)
  where
    go : (o : Option Given) → f name ≡ o
        → AllByRecursion (λ (name : List ℕ). slice_cmp nat_cmp low name ≡ Less) (map (λ (p : Given). p.0) (filter_map f names))
        → AllByRecursion (λ (name : List ℕ). slice_cmp nat_cmp low name ≡ Less) (map (λ (p : Given). p.0) (filter_map f (name ∷ names)))
    go None q rest = rw q rest
    go (Some p) q rest = rw q (subst (λ (x : List ℕ). slice_cmp nat_cmp low x ≡ Less) (sym (own name p q)) h.0, rest)

left-rise : (f : List ℕ → Option Given) → ((name : List ℕ) (p : Given) → f name ≡ Some p → p.0 ≡ name) → (names : List (List ℕ)) → NamesRise names
    → NamesRise (map (λ (p : Given). p.0) (filter_map f names))
unfolding IsStrictlySortedBy
left-rise f own [] h = tt
left-rise f own (name ∷ names) h = go (f name) refl (left-rise f own names h.1)
  where
    go : (o : Option Given) → f name ≡ o → NamesRise (map (λ (p : Given). p.0) (filter_map f names))
        → NamesRise (map (λ (p : Given). p.0) (filter_map f (name ∷ names)))
    go None q rest = rw q rest
    go (Some p) q rest =
        rw q (
          subst (λ (x : List ℕ). AllByRecursion (λ (y : List ℕ). slice_cmp nat_cmp x y ≡ Less) (map (λ (p : Given). p.0) (filter_map f names))) (sym (own name p q))
              (left-above f own name names h.0),
          rest,
        )

device-rise : NamesRise device_given
unfolding IsStrictlySortedBy
device-rise = ((refl, (refl, tt)), ((refl, tt), (tt, tt)))

object-rise : NamesRise object_given
unfolding IsStrictlySortedBy
object-rise = ((refl, (refl, (refl, tt))), ((refl, (refl, tt)), ((refl, tt), (tt, tt))))

-- a name that a description may have among properties
abbrev IsFree : List ℕ → Type 0
IsFree name = IsUtf8 name × (bytes_eq name (codes "slot") ≡ false)

device-free : AllByRecursion IsFree device_given
device-free = ((small-utf8 (codes "addr") refl, refl), ((small-utf8 (codes "chardev") refl, refl), ((small-utf8 (codes "memdev") refl, refl), tt)))

object-free : AllByRecursion IsFree object_given
object-free = (
  (small-utf8 (codes "flag") refl, refl),
  ((small-utf8 (codes "number") refl, refl), ((small-utf8 (codes "size") refl, refl), ((small-utf8 (codes "text") refl, refl), tt))),
)

told-back : (v : Val) → IsTold v → is_nothing v ≡ false → IsGivenBack v
told-back (val.Bool t) h e = tt
told-back (val.Uint n) h e = h
told-back (val.Int z) h e = h
told-back (val.Text text) h e = h
told-back val.Nothing h e = absurd (let clash : true ≡ false = e in cc)

unset-nothing : (v : Val) → is_unset v ≡ false → is_nothing v ≡ false
unset-nothing (val.Bool t) e = refl
unset-nothing (val.Uint n) e = refl
unset-nothing (val.Int z) e = refl
unset-nothing (val.Text text) e = refl
unset-nothing val.Nothing e = e

record IsGiven (name : List ℕ) (p : Given) : Type 0 where
  own : p.0 ≡ name
  back : IsGivenBack p.1

-- ---- the parts of a description

module _ (b : Board) (h : IsInOrder b) (values : SoundValues b) where
  given-told : (s : Slot) → HoldsTold s → IsTold (given_in b s)
  given-told (plain v) k = k
  given-told (child m) k = tt
  given-told (strong t target) k = target-utf8 b h target
  given-told (weak t target) k = tt
  given-told (alias m property) k = tt

  prop-given : (left_out : Val → Bool) → ((v : Val) → left_out v ≡ false → is_nothing v ≡ false) → (n : ℕ) (name : List ℕ) (p : Given)
      → prop_under b left_out n name ≡ Some p → IsGiven name p
  prop-given left_out some n name p e =
      let f : Slot → Option Given = λ (s : Slot). cond (left_out (given_in b s)) None (Some (name, given_in b s)) in
      let k : IsGained f (slot_named b n name) p = gained f (slot_named b n name) p e in
      let there = on-false (left_out (given_in b k.arg)) (name, given_in b k.arg) p k.is in
      subst (IsGiven name) there.1
      (record { own = refl; back = told-back (given_in b k.arg) (given-told k.arg (slot-told b values n name k.arg k.was)) (some (given_in b k.arg) there.0) })

  props-back : (left_out : Val → Bool) → ((v : Val) → left_out v ≡ false → is_nothing v ≡ false) → (names : List (List ℕ)) → NamesRise names
      → AllByRecursion IsFree names → (n : ℕ) → ArePropsBack (props_under b left_out names n)
  props-back left_out some names rise free n = (
    left-rise (prop_under b left_out n) (λ name p e. (prop-given left_out some n name p e).own) names rise,
    all-mapped IsFree IsPropBack (prop_under b left_out n) every names free,
  )
    where
      every : (name : List ℕ) (p : Given) → IsFree name → prop_under b left_out n name ≡ Some p → IsPropBack p
      every name p f e =
          let g : IsGiven name p = prop-given left_out some n name p e in
          (subst IsUtf8 (sym g.own) f.0, subst (λ (x : List ℕ). bytes_eq x (codes "slot") ≡ false) (sym g.own) f.1, g.back)

  name-utf8 : (e : List ℕ × ℕ) → IsPlainName e → IsUtf8 e.0
  name-utf8 e k = small-utf8 e.0 (small-bytes e.0 k.1)

  clock-writable : (e : List ℕ × ℕ) (y : ClockItem) → IsPlainName e → clock_item_of b e ≡ Some y → IsClockItem y
  clock-writable e y own is =
      let k : IsGained (clock_item b) (clock_of b e.1) y = gained (clock_item b) (clock_of b e.1) y is in
      let there = on-false ((mul_of b k.arg == 1) && (div_of b k.arg == 1)) (factors_of b k.arg) y k.is in
      subst IsClockItem there.1 (div-low b values k.arg, mul-low b values k.arg, path-utf8 b h k.arg)

  device-writable : (e : List ℕ × ℕ) (y : DeviceItem) → IsPlainName e → device_item b e ≡ Some y → IsDeviceItem y
  device-writable e y own is =
      let k : IsMapped (device_of b e) (kind_of b e.1) y = mapped (device_of b e) (kind_of b e.1) y is in
      subst IsDeviceItem k.is (
        target-utf8 b h (bus_of b e.1),
        kind-utf8 k.arg,
        name-utf8 e own,
        props-back is_unset unset-nothing device_given device-rise device-free e.1,
        low-or (bus_slot_of b e.1) 0 (number-low b values e.1 (codes "slot")) (omega arith),
      )

  object-writable : (e : List ℕ × ℕ) (y : ObjectItem) → IsPlainName e → object_item b e ≡ Some y → IsObjectItem y
  object-writable e y own is =
      let k : IsMapped (object_of b e) (kind_of b e.1) y = mapped (object_of b e) (kind_of b e.1) y is in
      subst IsObjectItem k.is
      (name-utf8 e own, props-back is_nothing (λ v e. e) object_given object-rise object-free e.1, kind-utf8 k.arg)

  link-writable : (n : ℕ) (s : List ℕ × Slot) (y : LinkItem) → ⊤ → link_item b n s ≡ Some y → IsLinkItem y
  link-writable n s y any is =
      let there = on-true (is_link s.1 && is_set b n s.0) (option_map (link_to b n s.0) (target_of s.1)) y is in
      let set = and_parts (is_link s.1) (is_set b n s.0) there.0 in
      let k : IsMapped (link_to b n s.0) (target_of s.1) y = mapped (link_to b n s.0) (target_of s.1) y there.1 in
      subst IsLinkItem k.is (path-utf8 b h n, set-utf8 b n s.0 set.1, path-utf8 b h k.arg)

  any-slots : (slots : List (List ℕ × Slot)) → AllByRecursion (λ (s : List ℕ × Slot). ⊤) slots
  any-slots [] = tt
  any-slots (s ∷ slots) = (tt, any-slots slots)

  links-writable : (e : List ℕ × ℕ) → IsPlainName e → AllByRecursion IsLinkItem (link_items b e)
  links-writable e own = all-mapped (λ (s : List ℕ × Slot). ⊤) IsLinkItem (link_item b e.1) (link-writable e.1) (slots_at b e.1) (any-slots (slots_at b e.1))

-- ---- rings

ring-low : (size : ℕ) → is_ring_size size ≡ true → size < 2 ^ 64
ring-low size e =
    let most : size ≤ RING_SIZE_MAX = leb-true size RING_SIZE_MAX (and_parts (is_power_of_two size) (nat_le size RING_SIZE_MAX) e).1 in
    omega (arith, most)

rings-writable : (rings : List Ring) → AllByRecursion (λ (r : Ring). is_id r.id ≡ true) rings → AllByRecursion IsGoodRing rings
    → AllByRecursion IsRingItem (map ring_item rings)
rings-writable [] ids good = tt
rings-writable (r ∷ rings) ids good =
    ((small-utf8 r.id (small-bytes r.id (id-plain (r.id, 0) ids.0).1), ring-low r.size good.0.size), rings-writable rings ids.1 good.1)

-- ---- all of it

writable : (b : Board) → IsInOrder b → SoundValues b → SoundRings b → IsWritable (description b)
writable b h values rings =
    let objects : AllByRecursion IsPlainName (child_entries b OBJECTS_BIRTH) = each_plain b h OBJECTS_BIRTH in
    let devices : AllByRecursion IsPlainName (child_entries b PERIPHERAL_BIRTH) = each_plain b h PERIPHERAL_BIRTH in
    record {
      clock = (
        div-low b values SYSTEM_CLOCK_BIRTH,
        mul-low b values SYSTEM_CLOCK_BIRTH,
        low-or (number_at b SYSTEM_CLOCK_BIRTH (codes "period")) 0 (number-low b values SYSTEM_CLOCK_BIRTH (codes "period")) (omega arith),
      );
      clocks = all-mapped IsPlainName IsClockItem (clock_item_of b) (clock-writable b h values) (child_entries b PERIPHERAL_BIRTH) devices;
      devices = all-mapped IsPlainName IsDeviceItem (device_item b) (device-writable b h values) (child_entries b PERIPHERAL_BIRTH) devices;
      links =
          all-flat IsPlainName IsLinkItem (link_items b) (links-writable b h values) (child_entries b OBJECTS_BIRTH ++ child_entries b PERIPHERAL_BIRTH)
          (all-append IsPlainName (child_entries b OBJECTS_BIRTH) (child_entries b PERIPHERAL_BIRTH) objects devices);
      objects = all-mapped IsPlainName IsObjectItem (object_item b) (object-writable b h values) (child_entries b OBJECTS_BIRTH) objects;
      rings = rings-writable b.rings h.order.rings rings.each;
    }

pub reread_lem : RereadLaw
unfolding described
reread_lem b d h values rings e =
    let whole = on-true (is_describable b) (Some (description b)) d e in
    subst (λ (x : Description). description_from (description_text x) ≡ Some x) (same_Some (description b) d whole.1)
    (descriptions_lem (description b) (writable b h values rings))
