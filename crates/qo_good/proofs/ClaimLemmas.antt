-- What is given to the devices of a description, by what they claim.
use Rattle.std.proofs.Common.{◌≡◌, ◌≢◌, ◌⊎◌, inl, inr, refl, ap, sym, subst, ◌∙◌, rules, ℕ, Bool, true, false, ◌==◌, List, [], ◌∷◌, ◌++◌, filter_map, Option, Some, None, option_and_then, unwrap_or, codes, decimal}
use Rattle.qo_model.proofs.Common.{AllByRecursion, option_map_or, bytes_eq, type_name, ROOT_BIRTH, TypeId, MemDimm, MemoryBackendRam, SlotBridge, SlotTimer, SlotUart, Board, Slot, plain, child, strong, weak, alias, kind_of, slot_named, Given, is_realized, number_in, plain_in, strong_in, text_at, text_in, is_of, canonical, is_absolute, path_down_to, property_named, is_a, types}
use Rattle.std.proofs.lemmas.Option.{same_Some}
use Rattle.qo_values.proofs.EachLemmas.{each}
use Rattle.qo_values.specs.declared.properties.Val.TheVariants as val
use Rattle.qo_model.specs.Properties.{path_text}
use Rattle.qo_save.specs.Described.{device_given, is_describable, is_unset, prop_under, props_under}
use Rattle.qo_sound.proofs.TestLemmas.{clash, decide}
use Rattle.qo_sound_claims.specs.SoundClaims.{HasRange as RangeKept, is_dimm_on, is_uart_on, NamesRing as RingNamed}
use Rattle.qo_sound_order.specs.SoundOrder.{is_abstract}
use Rattle.qo_sound_shapes.specs.SoundShape.{IsFurther}
use Rattle.qo_ways.proofs.WayLemmas.{Below, below-root}
use Rattle.qo_good.specs.GoodBoards.{IsWhole}
use Rattle.qo_good.proofs.BusLemmas.{Stood}
use Rattle.qo_good.proofs.PartLemmas.{device_as}
use Rattle.qo_good.proofs.PlaceLemmas.{at}
use Rattle.qo_good.proofs.ValueLemmas.{prop-left, prop-none, prop-some, unnamed}

-- ---- slots by what is read of them

pub text-slot : (id : List ℕ) (o : Option Slot) → option_and_then text_in (option_and_then plain_in o) ≡ Some id → o ≡ Some (plain (val.Text id))
text-slot id None e = absurd (cc)
text-slot id (Some (plain (val.Text t))) e = ap (λ (x : List ℕ). Some (plain (val.Text x))) (same_Some t id e)
text-slot id (Some (plain (val.Bool u))) e = absurd (cc)
text-slot id (Some (plain (val.Uint n))) e = absurd (cc)
text-slot id (Some (plain (val.Int z))) e = absurd (cc)
text-slot id (Some (plain val.Nothing)) e = absurd (cc)
text-slot id (Some (child m)) e = absurd (cc)
text-slot id (Some (strong t target)) e = absurd (cc)
text-slot id (Some (weak t target)) e = absurd (cc)
text-slot id (Some (alias m of)) e = absurd (cc)

pub number-slot : (n : ℕ) (o : Option Slot) → option_and_then number_in (option_and_then plain_in o) ≡ Some n → o ≡ Some (plain (val.Uint n))
number-slot n None e = absurd (cc)
number-slot n (Some (plain (val.Uint m))) e = ap (λ (x : ℕ). Some (plain (val.Uint x))) (same_Some m n e)
number-slot n (Some (plain (val.Bool u))) e = absurd (cc)
number-slot n (Some (plain (val.Text t))) e = absurd (cc)
number-slot n (Some (plain (val.Int z))) e = absurd (cc)
number-slot n (Some (plain val.Nothing)) e = absurd (cc)
number-slot n (Some (child m)) e = absurd (cc)
number-slot n (Some (strong t target)) e = absurd (cc)
number-slot n (Some (weak t target)) e = absurd (cc)
number-slot n (Some (alias m of)) e = absurd (cc)

pub strong-slot : (n : ℕ) (o : Option Slot) → option_and_then strong_in o ≡ Some n → (t : TypeId) × (o ≡ Some (strong t (Some n)))
strong-slot n None e = absurd (cc)
strong-slot n (Some (plain v)) e = absurd (cc)
strong-slot n (Some (child m)) e = absurd (cc)
strong-slot n (Some (strong t target)) e = (t, ap (λ (o : Option ℕ). Some (strong t o)) e)
strong-slot n (Some (weak t target)) e = absurd (cc)
strong-slot n (Some (alias m of)) e = absurd (cc)

-- ---- types

pub device-four : (t : TypeId) → is_abstract t ≡ false → is_a t (codes "device") ≡ true → (t ≡ SlotUart) ⊎ ((t ≡ MemDimm) ⊎ ((t ≡ SlotTimer) ⊎ (t ≡ SlotBridge)))
unfolding types
device-four =
    each (λ (t : TypeId). is_abstract t ≡ false → is_a t (codes "device") ≡ true → (t ≡ SlotUart) ⊎ ((t ≡ MemDimm) ⊎ ((t ≡ SlotTimer) ⊎ (t ≡ SlotBridge))))
    (search rules)

pub memory-one : (t : TypeId) → is_abstract t ≡ false → is_a t (codes "memory-backend") ≡ true → t ≡ MemoryBackendRam
unfolding types
memory-one = each (λ (t : TypeId). is_abstract t ≡ false → is_a t (codes "memory-backend") ≡ true → t ≡ MemoryBackendRam) (search rules)

pub device-no_memory : (t : TypeId) → is_a t (codes "device") ≡ true → bytes_eq (type_name t) (type_name MemoryBackendRam) ≡ false
unfolding types
device-no_memory = each (λ (t : TypeId). is_a t (codes "device") ≡ true → bytes_eq (type_name t) (type_name MemoryBackendRam) ≡ false) (search rules)

pub named-memory : (t : TypeId) → bytes_eq (type_name t) (type_name MemoryBackendRam) ≡ true → t ≡ MemoryBackendRam
named-memory = each (λ (t : TypeId). bytes_eq (type_name t) (type_name MemoryBackendRam) ≡ true → t ≡ MemoryBackendRam) (search rules)

pub named-dimm : (t : TypeId) → bytes_eq (type_name t) (type_name MemDimm) ≡ true → t ≡ MemDimm
named-dimm = each (λ (t : TypeId). bytes_eq (type_name t) (type_name MemDimm) ≡ true → t ≡ MemDimm) (search rules)

rowless : AllByRecursion (λ (r : TypeId × List ℕ). property_named r.0 r.1 ≡ None)
    ((SlotUart, codes "addr") ∷ (SlotUart, codes "memdev") ∷ (MemDimm, codes "chardev") ∷ (SlotTimer, codes "addr") ∷ (SlotTimer, codes "chardev")
    ∷ (SlotTimer, codes "memdev")
    ∷ (SlotBridge, codes "addr")
    ∷ (SlotBridge, codes "chardev")
    ∷ (SlotBridge, codes "memdev")
    ∷ [])
unfolding types
rowless = (refl, (refl, (refl, (refl, (refl, (refl, (refl, (refl, (refl, tt)))))))))

uart-named : is_a SlotUart (codes "slot-uart") ≡ true
unfolding types
uart-named = refl

dimm-named : is_a MemDimm (codes "mem-dimm") ≡ true
unfolding types
dimm-named = refl

-- no canonical path is empty
canonical-some : (b : Board) (m : ℕ) (path : List ℕ) → canonical b m ≡ Some path → path ≢ []
canonical-some b m path e empty = decide (m == ROOT_BIRTH) root other
  where
    root : (m == ROOT_BIRTH) ≡ true → ⊥
    root q =
        let here : Some (codes "/") ≡ Some path = rw q at e in
        let clash : codes "/" ≡ [] = same_Some (codes "/") path here ∙ empty in
        cc

    other : (m == ROOT_BIRTH) ≡ false → ⊥
    other q =
        let down : path_down_to b m ≡ Some path = rw q at e in
        let k : Below b m path = below-root b m path q down in
        let clash : false ≡ true = ap is_absolute (sym empty) ∙ k.absolute in
        cc

-- ---- properties

abbrev pub ring_given : List ℕ → List Given
ring_given [] = []
ring_given (c ∷ cs) = (codes "chardev", val.Text (c ∷ cs)) ∷ []

abbrev pub range_given : ℕ → List ℕ → List Given
range_given address memory = (codes "addr", val.Uint address) ∷ (codes "memdev", val.Text memory) ∷ []

-- what is given to a device n of a type
pub data Says (b : Board) (n : ℕ) (t : TypeId) (props : List Given) : Type 0 where
  as_uart : t ≡ SlotUart → (id : List ℕ) → text_at b n (codes "chardev") ≡ Some id → is_uart_on b n ≡ true → props ≡ ring_given id → Says b n t props
  as_dimm : t ≡ MemDimm → (k : RangeKept b n) → is_dimm_on b n ≡ true → props ≡ range_given k.range.at (path_text b k.backend) → Says b n t props
  as_other : (t ≡ SlotTimer) ⊎ (t ≡ SlotBridge) → props ≡ [] → Says b n t props

module _ (b : Board) (h : IsWhole b) (says : is_describable b ≡ true) where
  abbrev its : ℕ → List ℕ → Option Given
  its n name = prop_under b is_unset n name

  gone : (n : ℕ) (t : TypeId) → kind_of b n ≡ Some t → ((s : List ℕ × Slot) → IsFurther t s → ⊥) → (name : List ℕ) → property_named t name ≡ None → its n name ≡ None
  gone n t kind free name none = prop-none b is_unset n name (unnamed b h.order.shape n t kind name free none)

  three : (n : ℕ) (x y z : Option Given) → its n (codes "addr") ≡ x → its n (codes "chardev") ≡ y → its n (codes "memdev") ≡ z
      → props_under b is_unset device_given n ≡ filter_map (λ (o : Option Given). o) (x ∷ y ∷ z ∷ [])
  three n x y z e f g = rw (e, f, g) refl

  of-kind-on : (n : ℕ) (t : TypeId) (name : List ℕ) → kind_of b n ≡ Some t → is_a t name ≡ true → is_of b name n ≡ true
  of-kind-on n t name kind is = ap (λ (o : Option TypeId). option_map_or (λ (k : TypeId). is_a k name) o false) kind ∙ is

  uart-says : (n : ℕ) → kind_of b n ≡ Some SlotUart → is_realized b n ≡ true → Says b n SlotUart (props_under b is_unset device_given n)
  uart-says n kind lit =
      let on : is_uart_on b n ≡ true = rw (of-kind-on n SlotUart (codes "slot-uart") kind uart-named, lit) refl in
      let k : RingNamed b n = h.backends.claims.rings n on in
      as_uart refl k.id k.chardev on (by k.id (text-slot k.id (slot_named b n (codes "chardev")) k.chardev))
    where
      by : (id : List ℕ) → slot_named b n (codes "chardev") ≡ Some (plain (val.Text id)) → props_under b is_unset device_given n ≡ ring_given id
      by [] slot =
          three n None None None (gone n SlotUart kind (λ s x. x) (codes "addr") rowless.0)
          (prop-left b is_unset n (codes "chardev") (plain (val.Text [])) slot refl) (gone n SlotUart kind (λ s x. x) (codes "memdev") rowless.1.0)
      by (c ∷ cs) slot =
          three n None (Some (codes "chardev", val.Text (c ∷ cs))) None (gone n SlotUart kind (λ s x. x) (codes "addr") rowless.0)
          (prop-some b is_unset n (codes "chardev") (plain (val.Text (c ∷ cs))) slot refl) (gone n SlotUart kind (λ s x. x) (codes "memdev") rowless.1.0)

  dimm-says : (n : ℕ) → kind_of b n ≡ Some MemDimm → is_realized b n ≡ true → Says b n MemDimm (props_under b is_unset device_given n)
  dimm-says n kind lit =
      let on : is_dimm_on b n ≡ true = rw (of-kind-on n MemDimm (codes "mem-dimm") kind dimm-named, lit) refl in
      let k : RangeKept b n = h.backends.claims.ranges n on in
      let addr : slot_named b n (codes "addr") ≡ Some (plain (val.Uint k.range.at)) = number-slot k.range.at (slot_named b n (codes "addr")) k.addr in
      let (t, memdev) = strong-slot k.backend (slot_named b n (codes "memdev")) k.memdev in
      as_dimm refl k on
      (three n (Some (codes "addr", val.Uint k.range.at)) None (Some (codes "memdev", val.Text (path_text b k.backend)))
      (prop-some b is_unset n (codes "addr") (plain (val.Uint k.range.at)) addr refl)
      (gone n MemDimm kind (λ s x. x) (codes "chardev") rowless.1.1.0)
      (prop-some b is_unset n (codes "memdev") (strong t (Some k.backend)) memdev (set-text (path_text b k.backend) (some-path k.backend))))
    where
      set-text : (path : List ℕ) → path ≢ [] → is_unset (val.Text path) ≡ false
      set-text [] some = absurd (some refl)
      set-text (c ∷ cs) some = refl

      some-path : (m : ℕ) → path_text b m ≢ []
      some-path m e = go (canonical b m) refl
        where
          go : (o : Option (List ℕ)) → canonical b m ≡ o → ⊥
          go None q = let clash : codes "detached:" ++ decimal m ≡ [] = sym (ap (λ (o : Option (List ℕ)). unwrap_or o (codes "detached:" ++ decimal m)) q) ∙ e in cc
          go (Some path) q =
              let empty : path ≡ [] = sym (ap (λ (o : Option (List ℕ)). unwrap_or o (codes "detached:" ++ decimal m)) q) ∙ e in
              canonical-some b m path q empty

  other-says : (n : ℕ) (t : TypeId) → kind_of b n ≡ Some t → ((s : List ℕ × Slot) → IsFurther t s → ⊥) → (t ≡ SlotTimer) ⊎ (t ≡ SlotBridge)
      → property_named t (codes "addr") ≡ None → property_named t (codes "chardev") ≡ None → property_named t (codes "memdev") ≡ None
      → Says b n t (props_under b is_unset device_given n)
  other-says n t kind free which addr chardev memdev =
      as_other which
      (three n None None None (gone n t kind free (codes "addr") addr) (gone n t kind free (codes "chardev") chardev)
      (gone n t kind free (codes "memdev") memdev))

  -- what is given to a device in its place
  pub says-of : (e : List ℕ × ℕ) (k : Stood b e) → Says b e.1 k.here.kind (device_as b e).props
  says-of e k = by (device-four k.here.kind k.here.concrete k.here.wants)
    where
      turned : (t : TypeId) → k.here.kind ≡ t → Says b e.1 t (props_under b is_unset device_given e.1)
          → Says b e.1 k.here.kind (props_under b is_unset device_given e.1)
      turned t is s = subst (λ (u : TypeId). Says b e.1 u (props_under b is_unset device_given e.1)) (sym is) s

      by : (k.here.kind ≡ SlotUart) ⊎ ((k.here.kind ≡ MemDimm) ⊎ ((k.here.kind ≡ SlotTimer) ⊎ (k.here.kind ≡ SlotBridge)))
          → Says b e.1 k.here.kind (props_under b is_unset device_given e.1)
      by (inl is) = turned SlotUart is (uart-says e.1 (k.here.its ∙ ap Some is) k.realized)
      by (inr (inl is)) = turned MemDimm is (dimm-says e.1 (k.here.its ∙ ap Some is) k.realized)
      by (inr (inr (inl is))) =
          turned SlotTimer is
          (other-says e.1 SlotTimer (k.here.its ∙ ap Some is) (λ s x. x) (inl refl) rowless.1.1.1.0 rowless.1.1.1.1.0 rowless.1.1.1.1.1.0)
      by (inr (inr (inr is))) =
          turned SlotBridge is
          (other-says e.1 SlotBridge (k.here.its ∙ ap Some is) (λ s x. x) (inr refl) rowless.1.1.1.1.1.1.0 rowless.1.1.1.1.1.1.1.0
          rowless.1.1.1.1.1.1.1.1.0)
