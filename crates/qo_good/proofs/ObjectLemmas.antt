-- The system clock, the rings and users' objects of a description are good.
use Rattle.std.proofs.Common.{◌≡◌, ◌⊎◌, inl, inr, refl, ap, sym, subst, ◌∙◌, rules, ℕ, ◌<◌, ◌^◌, Bool, true, false, List, [], ◌∷◌, filter_map, map, Option, Some, None, option_and_then, unwrap_or, codes}
use Rattle.qo_model.proofs.Common.{AllByRecursion, IsDistinct, option_map_or, bytes_eq, is_id, MACHINE_BIRTH, OBJECTS_BIRTH, SYSTEM_CLOCK_BIRTH, TypeId, MemoryBackendRam, Object, Tag, BACKEND_SIZE_AT_FIRST, BACKEND_SIZE_MAX, DIMM_ALIGN, Board, Ring, Slot, plain, kind_of, slot_named, Given, period, scaled, source_of, number_in, plain_in, property_named, is_a, types}
use Rattle.std.proofs.lemmas.Option.{same_Some}
use Rattle.qo_values.proofs.EachLemmas.{each}
use Rattle.qo_values.specs.declared.properties.PropType.TheVariants as ty
use Rattle.qo_values.specs.declared.properties.Val.{Val}
use Rattle.qo_values.specs.declared.properties.Val.TheVariants as val
use Rattle.qo_model.proofs.PeriodLemmas.{period-own}
use Rattle.qo_model.specs.Plug.{number_for, size_of}
use Rattle.qo_model.specs.Types.{int64, property}
use Rattle.qo_model.specs.declared.properties.Access.TheVariants.{Add, Both}
use Rattle.qo_model.specs.declared.properties.First.TheVariants as first
use Rattle.qo_model.specs.declared.properties.PropertyName.TheVariants as prop
use Rattle.qo_model.specs.declared.properties.PropertyRole.{PropertyRole}
use Rattle.qo_model.specs.declared.properties.PropertyRole.TheVariants as row
use Rattle.qo_save.specs.Described.{description, is_nothing, object_given, object_of, prop_under, props_under, ring_item}
use Rattle.qo_save.specs.Description.{RingItem}
use Rattle.qo_sound.proofs.TestLemmas.{clash}
use Rattle.qo_sound_bounds.specs.SoundSources.{IsDeviceClock}
use Rattle.qo_sound_bounds.proofs.ClockLemmas.{clock-listed}
use Rattle.qo_sound_claims.specs.SoundRings.{IsGoodRing as RingIsGood, ring_ids}
use Rattle.qo_sound_devices.specs.SoundPlaces.{child_entries, stands}
use Rattle.qo_sound_devices.proofs.AttachmentLemmas.{parent-is}
use Rattle.qo_sound_order.specs.SoundOrder.{is_abstract}
use Rattle.qo_sound_shapes.specs.SoundShape.{SoundShape}
use Rattle.qo_sound_shapes.proofs.FactLemmas.{shapes_say_lem}
use Rattle.qo_good.specs.Good.{AreGiven, given, IsGoodClock, IsGoodObject, IsGoodRing, nothing, other, Takes}
use Rattle.qo_good.specs.GoodBoards.{IsWhole}
use Rattle.qo_good.proofs.PartLemmas.{Here, object_as, objects-said, users}
use Rattle.qo_good.proofs.PlaceLemmas.{firm}
use Rattle.qo_good.proofs.ValueLemmas.{prop-none, prop-some, some-admitted, unnamed, value-given, ValueRow}

-- ---- the system clock

module _ (b : Board) (h : IsWhole b) where
  pub system-free : source_of b SYSTEM_CLOCK_BIRTH ≡ None
  system-free = go (source_of b SYSTEM_CLOCK_BIRTH) refl
    where
      go : (o : Option ℕ) → source_of b SYSTEM_CLOCK_BIRTH ≡ o → source_of b SYSTEM_CLOCK_BIRTH ≡ None
      go None q = q
      go (Some s) q =
          let k : IsDeviceClock b SYSTEM_CLOCK_BIRTH = h.sources.only SYSTEM_CLOCK_BIRTH s q in
          let up = parent-is b (firm b h.order) k.device SYSTEM_CLOCK_BIRTH (clock-listed b (firm b h.order) k.device SYSTEM_CLOCK_BIRTH k.its) in
          let machine = parent-is b (firm b h.order) MACHINE_BIRTH SYSTEM_CLOCK_BIRTH h.order.devices.places.1.parts.1.1.1.1.0 in
          let same : k.device ≡ MACHINE_BIRTH = same_Some k.device MACHINE_BIRTH (sym up ∙ machine) in
          clash (sym (h.order.devices.places.1.only k.device k.realized) ∙ ap (stands b) same ∙ h.order.devices.places.1.aside.1.0)

  pub clock-good : IsGoodClock (description b).clock
  clock-good =
      record {
        divides = h.clocks.fit.divides SYSTEM_CLOCK_BIRTH;
        div = (h.numbers SYSTEM_CLOCK_BIRTH).div;
        mul = (h.numbers SYSTEM_CLOCK_BIRTH).mul;
        period = (h.numbers SYSTEM_CLOCK_BIRTH).period;
        fits = subst (λ (p : ℕ). scaled b SYSTEM_CLOCK_BIRTH p < 2 ^ 64) (period-own b SYSTEM_CLOCK_BIRTH system-free) (h.clocks.fit.fits SYSTEM_CLOCK_BIRTH);
      }

-- ---- rings

rings-each : (rings : List Ring) → AllByRecursion (λ (r : Ring). is_id r.id ≡ true) rings → AllByRecursion RingIsGood rings
    → AllByRecursion IsGoodRing (map ring_item rings)
rings-each [] ids good = tt
rings-each (r ∷ rings) ids good = (record { id = ids.0; size = good.0.size }, rings-each rings ids.1 good.1)

rings-named : (rings : List Ring) → map (λ (r : RingItem). r.id) (map ring_item rings) ≡ ring_ids rings
rings-named [] = refl
rings-named (r ∷ rings) = ap (λ (ids : List (List ℕ)). r.id ∷ ids) (rings-named rings)

pub rings-good : (b : Board) → IsWhole b → AllByRecursion IsGoodRing (description b).rings
rings-good b h = rings-each b.rings h.order.order.rings h.backends.rings.each

pub ring_ids-good : (b : Board) → IsWhole b → IsDistinct bytes_eq (map (λ (r : RingItem). r.id) (description b).rings)
ring_ids-good b h = subst (IsDistinct bytes_eq) (sym (rings-named b.rings)) h.backends.rings.once

-- ---- users' objects

pub creatable-two : (t : TypeId) → is_abstract t ≡ false → is_a t (codes "user-creatable") ≡ true → (t ≡ MemoryBackendRam) ⊎ (t ≡ Tag)
unfolding types
creatable-two = each (λ (t : TypeId). is_abstract t ≡ false → is_a t (codes "user-creatable") ≡ true → (t ≡ MemoryBackendRam) ⊎ (t ≡ Tag)) (search rules)

size-value : ValueRow MemoryBackendRam (codes "size")
unfolding types
size-value =
    record {
      p = property prop.Size (row.Plain (ty.Uint DIMM_ALIGN BACKEND_SIZE_MAX DIMM_ALIGN) (first.Uint BACKEND_SIZE_AT_FIRST)) Add;
      takes = ty.Uint DIMM_ALIGN BACKEND_SIZE_MAX DIMM_ALIGN;
      begins = first.Uint BACKEND_SIZE_AT_FIRST;
      found = refl;
      role = refl;
      some = λ e. cc;
      stays = refl;
    }

flag-value : ValueRow Tag (codes "flag")
unfolding types
flag-value =
    record {
      p = property prop.Flag (row.Plain ty.Bool (first.Bool false)) Both;
      takes = ty.Bool;
      begins = first.Bool false;
      found = refl;
      role = refl;
      some = λ e. cc;
      stays = refl;
    }

number-value : ValueRow Tag (codes "number")
unfolding types
number-value =
    record {
      p = property prop.Number (row.Plain int64 (first.Uint 0)) Both;
      takes = int64;
      begins = first.Uint 0;
      found = refl;
      role = refl;
      some = λ e. cc;
      stays = refl;
    }

text-value : ValueRow Tag (codes "text")
unfolding types
text-value =
    record {
      p = property prop.Text (row.Plain ty.Text first.NoText) Both;
      takes = ty.Text;
      begins = first.NoText;
      found = refl;
      role = refl;
      some = λ e. cc;
      stays = refl;
    }

pub memory-bare : AllByRecursion (λ (name : List ℕ). property_named MemoryBackendRam name ≡ None) (codes "flag" ∷ codes "number" ∷ codes "text" ∷ [])
unfolding types
memory-bare = (refl, (refl, (refl, tt)))

pub tag-bare : property_named Tag (codes "size") ≡ None
unfolding types
tag-bare = refl

module _ (b : Board) (shape : SoundShape b) (n : ℕ) (t : TypeId) (kind : kind_of b n ≡ Some t) where
  abbrev its : List ℕ → Option Given
  its name = prop_under b is_nothing n name

  one-given : (name : List ℕ) (names : List (List ℕ)) → ValueRow t name → AreGiven t names (filter_map its names)
      → AreGiven t (name ∷ names) (filter_map its (name ∷ names))
  one-given name names k rest =
      let (v, (at, takes)) = value-given b shape n t kind name k in
      let says : its name ≡ Some (name, v) = prop-some b is_nothing n name (plain v) at (some-admitted k.takes v takes) in
      let is : filter_map its (name ∷ names) ≡ (name, v) ∷ filter_map its names = rw says refl in
      subst (AreGiven t (name ∷ names)) (sym is) (given k.p k.found (subst (λ (r : PropertyRole). Takes r v) (sym k.role) takes) rest)

  one-other : (name : List ℕ) (names : List (List ℕ)) → slot_named b n name ≡ None → property_named t name ≡ None → AreGiven t names (filter_map its names)
      → AreGiven t (name ∷ names) (filter_map its (name ∷ names))
  one-other name names none rowless rest =
      let says : its name ≡ None = prop-none b is_nothing n name none in
      let is : filter_map its (name ∷ names) ≡ filter_map its names = rw says refl in
      subst (AreGiven t (name ∷ names)) (sym is) (other rowless rest)

memory-given : (b : Board) → SoundShape b → (n : ℕ) → kind_of b n ≡ Some MemoryBackendRam
    → AreGiven MemoryBackendRam object_given (props_under b is_nothing object_given n)
memory-given b shape n kind =
    let gone = unnamed b shape n MemoryBackendRam kind in
    let o = one-other b shape n MemoryBackendRam kind in
    o (codes "flag") (codes "number" ∷ codes "size" ∷ codes "text" ∷ []) (gone (codes "flag") (λ s k. k) memory-bare.0) memory-bare.0
    (o (codes "number") (codes "size" ∷ codes "text" ∷ []) (gone (codes "number") (λ s k. k) memory-bare.1.0) memory-bare.1.0
    (one-given b shape n MemoryBackendRam kind (codes "size") (codes "text" ∷ []) size-value
    (o (codes "text") [] (gone (codes "text") (λ s k. k) memory-bare.1.1.0) memory-bare.1.1.0 nothing)))

tag-given : (b : Board) → SoundShape b → (n : ℕ) → kind_of b n ≡ Some Tag → AreGiven Tag object_given (props_under b is_nothing object_given n)
tag-given b shape n kind =
    one-given b shape n Tag kind (codes "flag") (codes "number" ∷ codes "size" ∷ codes "text" ∷ []) flag-value
    (one-given b shape n Tag kind (codes "number") (codes "size" ∷ codes "text" ∷ []) number-value
    (one-other b shape n Tag kind (codes "size") (codes "text" ∷ []) (unnamed b shape n Tag kind (codes "size") (λ s k. k) tag-bare) tag-bare
    (one-given b shape n Tag kind (codes "text") [] text-value nothing)))

-- what is given to a memory backend and to a tag
pub record MemoryProps (b : Board) (n : ℕ) : Type 0 where
  pub size : ℕ
  pub at : slot_named b n (codes "size") ≡ Some (plain (val.Uint size))
  pub props : props_under b is_nothing object_given n ≡ (codes "size", val.Uint size) ∷ []

pub record TagProps (b : Board) (n : ℕ) : Type 0 where
  pub flag : Val
  pub number : Val
  pub text : Val
  pub flag_at : slot_named b n (codes "flag") ≡ Some (plain flag)
  pub number_at : slot_named b n (codes "number") ≡ Some (plain number)
  pub text_at : slot_named b n (codes "text") ≡ Some (plain text)
  pub props : props_under b is_nothing object_given n ≡ (codes "flag", flag) ∷ (codes "number", number) ∷ (codes "text", text) ∷ []

module _ (b : Board) (shape : SoundShape b) (n : ℕ) where
  pub four : (w x y z : Option Given) → prop_under b is_nothing n (codes "flag") ≡ w → prop_under b is_nothing n (codes "number") ≡ x
      → prop_under b is_nothing n (codes "size") ≡ y → prop_under b is_nothing n (codes "text") ≡ z
      → props_under b is_nothing object_given n ≡ filter_map (λ (o : Option Given). o) (w ∷ x ∷ y ∷ z ∷ [])
  four w x y z e f g k = rw (e, f, g, k) refl

  pub memory-props : kind_of b n ≡ Some MemoryBackendRam → MemoryProps b n
  unfolding types
  memory-props kind =
      let gone = unnamed b shape n MemoryBackendRam kind in
      let (v, at) =
      shapes_say_lem.memory b shape n (ap (λ (o : Option TypeId). option_map_or (λ (t : TypeId). is_a t (codes "memory-backend")) o false) kind) in
      record {
        size = v;
        at = at;
        props = four None None (Some (codes "size", val.Uint v)) None
            (prop-none b is_nothing n (codes "flag") (gone (codes "flag") (λ s k. k) memory-bare.0))
            (prop-none b is_nothing n (codes "number") (gone (codes "number") (λ s k. k) memory-bare.1.0))
            (prop-some b is_nothing n (codes "size") (plain (val.Uint v)) at refl)
            (prop-none b is_nothing n (codes "text") (gone (codes "text") (λ s k. k) memory-bare.1.1.0));
      }

  pub tag-props : kind_of b n ≡ Some Tag → TagProps b n
  tag-props kind =
      let (f, (flag_at, flag_takes)) = value-given b shape n Tag kind (codes "flag") flag-value in
      let (m, (number_at, number_takes)) = value-given b shape n Tag kind (codes "number") number-value in
      let (t, (text_at, text_takes)) = value-given b shape n Tag kind (codes "text") text-value in
      record {
        flag = f;
        number = m;
        text = t;
        flag_at = flag_at;
        number_at = number_at;
        text_at = text_at;
        props = four (Some (codes "flag", f)) (Some (codes "number", m)) None (Some (codes "text", t))
            (prop-some b is_nothing n (codes "flag") (plain f) flag_at (some-admitted flag-value.takes f flag_takes))
            (prop-some b is_nothing n (codes "number") (plain m) number_at (some-admitted number-value.takes m number_takes))
            (prop-none b is_nothing n (codes "size") (unnamed b shape n Tag kind (codes "size") (λ s k. k) tag-bare))
            (prop-some b is_nothing n (codes "text") (plain t) text_at (some-admitted text-value.takes t text_takes));
      }

-- the size of a memory backend, as it is said
pub memory-size : (b : Board) → SoundShape b → (n : ℕ) → kind_of b n ≡ Some MemoryBackendRam
    → number_for (props_under b is_nothing object_given n) (codes "size") ≡ Some (size_of b n)
memory-size b shape n kind =
    let k : MemoryProps b n = memory-props b shape n kind in
    let long : size_of b n ≡ k.size = ap (λ (o : Option Slot). unwrap_or (option_and_then number_in (option_and_then plain_in o)) 0) k.at in
    ap (λ (ps : List Given). number_for ps (codes "size")) k.props ∙ ap Some (sym long)

object-good : (b : Board) → SoundShape b → (e : List ℕ × ℕ) → Here b OBJECTS_BIRTH (codes "user-creatable") e → IsGoodObject (object_as b e)
object-good b shape e k =
    subst IsGoodObject (ap (λ (o : Option TypeId). object_of b e (unwrap_or o Object)) (sym k.its))
    (record { kind = k.kind; its = refl; concrete = k.concrete; creatable = k.wants; id = k.id; props = by (creatable-two k.kind k.concrete k.wants) })
  where
    by : (k.kind ≡ MemoryBackendRam) ⊎ (k.kind ≡ Tag) → AreGiven k.kind object_given (props_under b is_nothing object_given e.1)
    by (inl is) =
        subst (λ (t : TypeId). AreGiven t object_given (props_under b is_nothing object_given e.1)) (sym is)
        (memory-given b shape e.1 (k.its ∙ ap Some is))
    by (inr is) =
        subst (λ (t : TypeId). AreGiven t object_given (props_under b is_nothing object_given e.1)) (sym is) (tag-given b shape e.1 (k.its ∙ ap Some is))

objects-mapped : (b : Board) → SoundShape b → (es : List (List ℕ × ℕ)) → AllByRecursion (Here b OBJECTS_BIRTH (codes "user-creatable")) es
    → AllByRecursion IsGoodObject (map (object_as b) es)
objects-mapped b shape [] h = tt
objects-mapped b shape (e ∷ es) h = (object-good b shape e h.0, objects-mapped b shape es h.1)

pub objects-good : (b : Board) → IsWhole b → AllByRecursion IsGoodObject (description b).objects
objects-good b h =
    subst (AllByRecursion IsGoodObject) (sym (objects-said b h.order))
    (objects-mapped b h.order.shape (child_entries b OBJECTS_BIRTH) (users b h.order))
