-- Which claims are due to an object of the board: by the id of its device, its slot, its ring, its memory backend and its range.
use Rattle.std.proofs.Common.{◌≡◌, ◌≢◌, refl, ap, sym, ◌∙◌, ℕ, Bool, true, false, ◌&&◌, ◌||◌, ◌==◌, List, [], ◌∷◌, Option, Some, None, option_map, codes, slice_get, arith, rules}
use Rattle.std.specs.Prelude.{if◌then◌else◌, option_and_then}
use Rattle.std.specs.List.{list_any}
use Rattle.std.specs.Option.{option_map_or}
use Rattle.std.specs.Str.{bytes_eq}
use Rattle.std.proofs.Math.Bool.{or-false}
use Rattle.std.proofs.lemmas.Slice.Eq.{bytes_eq-Decides}
use Rattle.qo_values.specs.Registers.{DimmRegisters, Registers, dimm}
use Rattle.qo_values.specs.declared.ranges.Range.{Range}
use Rattle.qo_values.proofs.EachLemmas.{each_body}
use Rattle.qo_claims.specs.Lists.{bus_slot, range_eq}
use Rattle.qo_claims.specs.declared.claims.Claimed.{Claimed}
use Rattle.qo_claims.specs.declared.claims.Claimed.TheVariants as on
use Rattle.qo_claims.specs.declared.slots.BusSlot.{BusSlot}
use Rattle.qo_model.specs.Board.{Board, Record, record_of}
use Rattle.qo_model.specs.Devices.{bus_of, bus_slot_of, has_id, is_realized, text_at}
use Rattle.qo_model.specs.Paths.{is_of}
use Rattle.qo_model.specs.Plug.{backend_of, claims_ring, has_backend, is_dimm, range_in}
use Rattle.qo_sound.proofs.TestLemmas.{clash, decide}
use Rattle.qo_heap.specs.Book.{claim_eq}
use Rattle.qo_sound_claims.proofs.ReadLemmas.{kind-at}
use Rattle.qo_buses.specs.Rings.{named_ring}
use Rattle.qo_realize.specs.BoardClaims.{backend_due, claims_due, own_range, range_due, ring_due, slot_due}
use Rattle.qo_realize.proofs.RecountedRows.{claims, is_due}
use Rattle.qo_realize.proofs.RecountedSlots.{has_place, names_slot}

-- where a claim is of another kind, an object has it not by its slot, its ring, its memory backend or its range

none-mapped : {A : Type 0} (x : Claimed) (f : A → Claimed) → ((y : A) → claim_eq x (f y) ≡ false) → (o : Option A) → claims x (option_map f o) ≡ false
none-mapped x f other None = refl
none-mapped x f other (Some y) = other y

none-tested : {A : Type 0} (x : Claimed) (f : A → Claimed) → ((y : A) → claim_eq x (f y) ≡ false) → (t : Bool) (o : Option A)
    → claims x (if t then option_map f o else None) ≡ false
none-tested x f other true o = none-mapped x f other o
none-tested x f other false o = refl

module _ (x : Claimed) (b : Board) (n : ℕ) where
  no-slot : ((s : BusSlot) → claim_eq x (on.Slot s) ≡ false) → claims x (slot_due b n) ≡ false
  no-slot other = go (bus_of b n) (bus_slot_of b n)
    where
      go : (q k : Option ℕ) → claims x (option_and_then (λ bus. option_map (λ slot. on.Slot (bus_slot bus slot)) k) q) ≡ false
      go None k = refl
      go (Some bus) None = refl
      go (Some bus) (Some slot) = other (bus_slot bus slot)

  no-ring : ((id : List ℕ) → claim_eq x (on.Ring id) ≡ false) → claims x (ring_due b n) ≡ false
  no-ring other = none-tested x on.Ring other (is_of b (codes "slot-uart") n) (option_and_then named_ring (text_at b n (codes "chardev")))

  no-backend : ((m : ℕ) → claim_eq x (on.Backend m) ≡ false) → claims x (backend_due b n) ≡ false
  no-backend other = none-tested x on.Backend other (is_of b (codes "mem-dimm") n) (backend_of b n)

  no-range : ((r : Range) → claim_eq x (on.Range r) ≡ false) → claims x (range_due b n) ≡ false
  no-range other = none-tested x on.Range other (is_of b (codes "mem-dimm") n) (own_range b n)

-- one test decides, where the others fail

only-id : (lit slot ring backend range id : Bool) → slot ≡ false → ring ≡ false → backend ≡ false → range ≡ false
    → (lit && (slot || (ring || (backend || range))) || id) ≡ id
only-id true slot ring backend range id s r m g = rw (s, r, m, g) refl
only-id false slot ring backend range id s r m g = refl

only-slot : (lit slot ring backend range id : Bool) → ring ≡ false → backend ≡ false → range ≡ false → id ≡ false
    → (lit && (slot || (ring || (backend || range))) || id) ≡ (lit && slot)
only-slot lit slot ring backend range id r m g i = rw (r, m, g, i) (or-false (lit && (slot || false)) ∙ ap (λ (t : Bool). lit && t) (or-false slot))

only-ring : (lit slot ring backend range id : Bool) → slot ≡ false → backend ≡ false → range ≡ false → id ≡ false
    → (lit && (slot || (ring || (backend || range))) || id) ≡ (lit && ring)
only-ring lit slot ring backend range id s m g i = rw (s, m, g, i) (or-false (lit && (ring || false)) ∙ ap (λ (t : Bool). lit && t) (or-false ring))

only-backend : (lit slot ring backend range id : Bool) → slot ≡ false → ring ≡ false → range ≡ false → id ≡ false
    → (lit && (slot || (ring || (backend || range))) || id) ≡ (lit && backend)
only-backend lit slot ring backend range id s r g i =
    rw (s, r, g, i) (or-false (lit && (backend || false)) ∙ ap (λ (t : Bool). lit && t) (or-false backend))

only-range : (lit slot ring backend range id : Bool) → slot ≡ false → ring ≡ false → backend ≡ false → id ≡ false
    → (lit && (slot || (ring || (backend || range))) || id) ≡ (lit && range)
only-range lit slot ring backend range id s r m i = rw (s, r, m, i) (or-false (lit && range))

-- of an object of a type that is realized, the test of its claim decides
of-type : (x : Claimed) (lit type : Bool) (o : Option Claimed) (t : Bool) → claims x o ≡ t → (lit && claims x (if type then o else None)) ≡ ((type && lit) && t)
of-type x true true o t e = e
of-type x true false o t e = refl
of-type x false true o t e = refl
of-type x false false o t e = refl

bytes-turned : (a b : List ℕ) → bytes_eq a b ≡ bytes_eq b a
bytes-turned a b =
    decide (bytes_eq b a) (λ p. (bytes_eq-Decides a b).1 (sym ((bytes_eq-Decides b a).0 p)) ∙ sym p)
    (λ p. decide (bytes_eq a b) (λ q. clash (sym ((bytes_eq-Decides b a).1 (sym ((bytes_eq-Decides a b).0 q))) ∙ p)) (λ q. q ∙ sym p))

eqb-turned : (a b : ℕ) → (a == b) ≡ (b == a)
eqb-turned a b = grind arith

-- the empty text names no ring
rings-named : (id : List ℕ) → id ≢ [] → (text : Option (List ℕ))
    → claims (on.Ring id) (option_map on.Ring (option_and_then named_ring text)) ≡ option_map_or (bytes_eq id) text false
rings-named id some None = refl
rings-named id some (Some []) = decide (bytes_eq id []) (λ p. absurd (some ((bytes_eq-Decides id []).0 p))) (λ p. sym p)
rings-named id some (Some (c ∷ cs)) = refl

-- registers have one range at most
abbrev HasOneRange : Range → Registers → Type 0
HasOneRange s r = claims (on.Range s) (option_map on.Range (slice_get (range_in r) 0)) ≡ list_any (range_eq s) (range_in r)

dimm-range : (s : Range) (d : DimmRegisters) → HasOneRange s (dimm d)
dimm-range s d = sym (or-false (range_eq s (record { at = d.address; size = d.size })))

ranges-in : (s : Range) (registers : Registers) → HasOneRange s registers
ranges-in s = each_body (HasOneRange s) (search (rules, dimm-range))

-- what is due to an object of the board

abbrev pub stands_on : Board → ℕ → Record → Bool
stands_on b m r = (is_dimm r && is_realized b r.birth) && has_backend b m r.birth

abbrev pub is_at_range : Board → Range → Record → Bool
is_at_range b s r = (is_dimm r && is_realized b r.birth) && list_any (range_eq s) (range_in r.registers)

module _ (b : Board) (r : Record) where
  abbrev lit : Bool
  lit = is_realized b r.birth

  abbrev slot_of : Claimed → Bool
  slot_of x = claims x (slot_due b r.birth)

  abbrev ring_of : Claimed → Bool
  ring_of x = claims x (ring_due b r.birth)

  abbrev backend_in : Claimed → Bool
  backend_in x = claims x (backend_due b r.birth)

  abbrev range_of : Claimed → Bool
  range_of x = claims x (range_due b r.birth)

  abbrev id_in : Claimed → Bool
  id_in x = claims x (option_map on.Device r.device_id)

  pub id-due : (id : List ℕ) → is_due (claims_due b) b (on.Device id) r ≡ has_id id r
  id-due id =
      let x = on.Device id in
      only-id lit (slot_of x) (ring_of x) (backend_in x) (range_of x) (id_in x) (no-slot x b r.birth (λ s. refl)) (no-ring x b r.birth (λ i. refl))
      (no-backend x b r.birth (λ m. refl)) (no-range x b r.birth (λ g. refl))
      ∙ go r.device_id
    where
      go : (o : Option (List ℕ)) → claims (on.Device id) (option_map on.Device o) ≡ option_map_or (λ (its : List ℕ). bytes_eq its id) o false
      go None = refl
      go (Some its) = bytes-turned id its

  pub slot-due : (bus slot : ℕ) → is_due (claims_due b) b (on.Slot (bus_slot bus slot)) r ≡ has_place b bus slot r
  slot-due bus slot =
      let x = on.Slot (bus_slot bus slot) in
      only-slot lit (slot_of x) (ring_of x) (backend_in x) (range_of x) (id_in x) (no-ring x b r.birth (λ i. refl)) (no-backend x b r.birth (λ m. refl))
      (no-range x b r.birth (λ g. refl)) (none-mapped x on.Device (λ i. refl) r.device_id)
      ∙ ap (λ (t : Bool). lit && t) (go (bus_of b r.birth) (bus_slot_of b r.birth))
    where
      go : (q k : Option ℕ)
          → claims (on.Slot (bus_slot bus slot)) (option_and_then (λ n. option_map (λ m. on.Slot (bus_slot n m)) k) q) ≡ names_slot bus slot q k
      go None k = refl
      go (Some n) None = refl
      go (Some n) (Some m) = refl

  module _ (there : record_of b r.birth ≡ Some r) where
    pub ring-due : (id : List ℕ) → id ≢ [] → is_due (claims_due b) b (on.Ring id) r ≡ claims_ring b id r
    ring-due id some =
        let x = on.Ring id in
        let text = text_at b r.birth (codes "chardev") in
        only-ring lit (slot_of x) (ring_of x) (backend_in x) (range_of x) (id_in x) (no-slot x b r.birth (λ s. refl)) (no-backend x b r.birth (λ m. refl))
        (no-range x b r.birth (λ g. refl)) (none-mapped x on.Device (λ i. refl) r.device_id)
        ∙ of-type x lit (is_of b (codes "slot-uart") r.birth) (option_map on.Ring (option_and_then named_ring text)) (option_map_or (bytes_eq id) text false)
        (rings-named id some text)
        ∙ ap (λ (t : Bool). (t && lit) && option_map_or (bytes_eq id) text false) (kind-at b r.birth r there (codes "slot-uart"))

    pub backend-due : (m : ℕ) → is_due (claims_due b) b (on.Backend m) r ≡ stands_on b m r
    backend-due m =
        let x = on.Backend m in
        only-backend lit (slot_of x) (ring_of x) (backend_in x) (range_of x) (id_in x) (no-slot x b r.birth (λ s. refl)) (no-ring x b r.birth (λ i. refl))
        (no-range x b r.birth (λ g. refl)) (none-mapped x on.Device (λ i. refl) r.device_id)
        ∙ of-type x lit (is_of b (codes "mem-dimm") r.birth) (option_map on.Backend (backend_of b r.birth)) (has_backend b m r.birth)
        (go (backend_of b r.birth))
        ∙ ap (λ (t : Bool). (t && lit) && has_backend b m r.birth) (kind-at b r.birth r there (codes "mem-dimm"))
      where
        go : (o : Option ℕ) → claims (on.Backend m) (option_map on.Backend o) ≡ option_map_or (λ (n : ℕ). n == m) o false
        go None = refl
        go (Some n) = eqb-turned m n

    pub range-due : (s : Range) → is_due (claims_due b) b (on.Range s) r ≡ is_at_range b s r
    range-due s =
        let x = on.Range s in
        only-range lit (slot_of x) (ring_of x) (backend_in x) (range_of x) (id_in x) (no-slot x b r.birth (λ k. refl)) (no-ring x b r.birth (λ i. refl))
        (no-backend x b r.birth (λ m. refl)) (none-mapped x on.Device (λ i. refl) r.device_id)
        ∙ of-type x lit (is_of b (codes "mem-dimm") r.birth) (option_map on.Range (own_range b r.birth)) (list_any (range_eq s) (range_in r.registers)) own
        ∙ ap (λ (t : Bool). (t && lit) && list_any (range_eq s) (range_in r.registers)) (kind-at b r.birth r there (codes "mem-dimm"))
      where
        own : claims (on.Range s) (option_map on.Range (own_range b r.birth)) ≡ list_any (range_eq s) (range_in r.registers)
        own =
            ap (λ (o : Option Record). claims (on.Range s) (option_map on.Range (option_and_then (λ (y : Record). slice_get (range_in y.registers) 0) o))) there
            ∙ ranges-in s r.registers
