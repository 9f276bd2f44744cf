-- Adding a device, taken or refused at any stage, keeps the backends sound: what bars it late is what the claims need.
use Rattle.std.proofs.Common.{rules, ◌≡◌, ◌≢◌, ◌⊎◌, inl, inr, refl, ap, sym, subst, ◌∙◌, ℕ, ◌+◌, ◌<◌, ◌%◌, Bool, true, false, not, ◌&&◌, ◌==◌, List, [], ◌∷◌, ◌++◌, filter, find, map, Option, Some, None, is_some, option_map, option_and_then, codes, Result, Ok, Err, arith}
use Rattle.qo_model.proofs.Common.{if◌then◌else◌, nat_le, nat_lt, unwrap_or, list_any, option_map_or, option_or, bytes_eq, fits_at, is_in_window, overlap, overlaps_any, free_address, range_at, window_size, window_start, dimm, Code, E19, E36, E37, E38, E39, E40, E41, TypeId, SlotUart, MemDimm, MemoryBackend, DIMM_ALIGN, Val, Range, Board, Record, Ring, Slot, plain, strong, is_live, kind_of, record_of, is_realized, number_at, number_in, plain_in, strong_in, text_at, text_in, Given, given_to, refusal_by, refusal_of, slot_given, target_given, is_of, Resources, Wanted, at_stage, backend_of, barred_late, claims_ring, code_in, dimms, has_backend, has_ring, is_dimm, kind_barred, notice_barred, number_for, ok_in, place_barred, plug, plug_attempt, range_barred, range_for, range_in, range_of, ranges_of, realize_barred, ring_barred, size_of, resources_of, target_for, text_for, with_plugged, link_target, property_named, is_a, slots_of, types}
use Rattle.std.specs.List.{flat_map}
use Rattle.std.proofs.lemmas.Bool.{and_parts, eqb-true, eq-eqb, not-true, not-false}
use Rattle.std.proofs.lemmas.Option.{same_Some}
use Rattle.std.proofs.lemmas.Slice.Eq.{bytes_eq-Decides}
use Rattle.qo_values.specs.declared.properties.Val.TheVariants as val
use Rattle.qo_model.specs.Plug.{first_of}
use Rattle.qo_model.proofs.StepLemmas.{found_at, found-birth}
use Rattle.qo_sound.specs.TreeKept.{SoundTree}
use Rattle.qo_sound.proofs.AddLemmas.{unbarred}
use Rattle.qo_sound.proofs.DeviceScopeLemmas.{devices_stay_lem}
use Rattle.qo_sound.proofs.DraftLemmas.{absent-above}
use Rattle.qo_sound.proofs.PlugLemmas.{or-none, plugged-rest, shut-above, stage-none}
use Rattle.qo_values.proofs.PlacingLemmas.{least-passes}
use Rattle.qo_values.proofs.EachLemmas.{each}
use Rattle.qo_sound.proofs.TargetLemmas.{FitsResult, target-fits}
use Rattle.qo_sound.proofs.ViewLemmas.{PinsRootAlone, rest-from_sound, sound-from_rest}
use Rattle.qo_sound_devices.specs.SoundDevices.{SoundDevices}
use Rattle.qo_sound_devices.specs.SoundPlaces.{IsHome}
use Rattle.qo_sound_devices.proofs.AcceptanceLemmas.{Passes, passes}
use Rattle.qo_sound_devices.proofs.AdditionLemmas.{done, Joined}
use Rattle.qo_sound_devices.proofs.PlacesLemmas.{realized-live}
use Rattle.qo_sound_devices.proofs.PlugLemmas.{Accepted, after-plug}
use Rattle.qo_sound_devices.proofs.PlugStageLemmas.{accepted-joined}
use Rattle.qo_sound_claims.specs.ClaimsStay.{ClaimsAlike, ClaimsGiven, ranges_at}
use Rattle.qo_sound_claims.specs.SoundBackends.{SoundBackends}
use Rattle.qo_sound_claims.specs.SoundClaims.{HasRange, is_dimm_on, is_uart_on, NamesRing, StandsOn}
use Rattle.qo_sound_claims.specs.SoundRings.{AreGoodRings}
use Rattle.qo_sound_claims.proofs.GrowthLemmas.{Growing, growing-all}
use Rattle.qo_sound_claims.proofs.ClaimLemmas.{backend-before, dimm-before, dimm-of, memory-same, Old, one_uart-old, ranges-old, rings-old, stands-before, uart-before}
use Rattle.qo_sound_claims.proofs.ClaimValueLemmas.{Apart, first_row, own-addr, own-is, own-range}
use Rattle.qo_sound_claims.proofs.ReadLemmas.{at-backend, kind-at, target-there}
use Rattle.qo_sound_claims.proofs.RingLemmas.{claims-it}
use Rattle.qo_sound_claims.proofs.SlotLemmas.{is_memdev}
use Rattle.qo_sound_claims.proofs.StayLemmas.{stay-at}
use Rattle.qo_sound_claims.proofs.StepsLemmas.{backends-beside}

-- types by their names

uart-only : (t : TypeId) → is_a t (codes "slot-uart") ≡ true → t ≡ SlotUart
unfolding types
uart-only = each (λ (t : TypeId). is_a t (codes "slot-uart") ≡ true → t ≡ SlotUart) (search rules)

dimm-only : (t : TypeId) → is_a t (codes "mem-dimm") ≡ true → t ≡ MemDimm
unfolding types
dimm-only = each (λ (t : TypeId). is_a t (codes "mem-dimm") ≡ true → t ≡ MemDimm) (search rules)

-- what was given fits

given-fits : (b : Board) (t : TypeId) (name : List ℕ) (props : List Given) → refusal_of b t props ≡ None → (p : Given)
    → find (λ (q : Given). bytes_eq q.0 name) props ≡ Some p → refusal_by b (property_named t name) p.1 ≡ None
given-fits b t name [] e p k = cc
given-fits b t name (q ∷ props) e p k =
    go (refusal_by b (property_named t q.0) q.1) refl (bytes_eq q.0 name) refl (given-fits b t name props)
  where
    go : (o : Option Code) → refusal_by b (property_named t q.0) q.1 ≡ o → (u : Bool) → bytes_eq q.0 name ≡ u
        → (refusal_of b t props ≡ None → (r : Given) → find (λ (s : Given). bytes_eq s.0 name) props ≡ Some r
        → refusal_by b (property_named t name) r.1 ≡ None)
        → refusal_by b (property_named t name) p.1 ≡ None
    go (Some code) r u l rest = absurd (let clash : Some code ≡ None = rw (refusal_of, r) at e in cc)
    go None r true l rest =
        let is : q ≡ p = same_Some q p (rw l at k) in
        ap (λ (own : List ℕ). refusal_by b (property_named t own) p.1) (sym ((bytes_eq-Decides q.0 name).0 l) ∙ ap (λ (x : Given). x.0) is)
        ∙ ap (λ (x : Given). refusal_by b (property_named t x.0) x.1) (sym is)
        ∙ r
    go None r false l rest = rest (rw (refusal_of, r) at e) p (rw l at k)

-- the text of a UART

record IsText (v : Val) : Type 0 where
  text : List ℕ
  is : v ≡ val.Text text

uart-text : (b : Board) (v : Val) → refusal_by b (property_named SlotUart (codes "chardev")) v ≡ None → IsText v
unfolding types
uart-text b (val.Text text) e = record { text = text; is = refl }
uart-text b (val.Bool v) e = absurd (let clash : Some E19 ≡ None = e in cc)
uart-text b (val.Int v) e = absurd (let clash : Some E19 ≡ None = e in cc)
uart-text b (val.Uint v) e = absurd (let clash : Some E19 ≡ None = e in cc)
uart-text b val.Nothing e = absurd (let clash : Some E19 ≡ None = e in cc)

text-given : (b : Board) (props : List Given) → refusal_of b SlotUart props ≡ None
    → (slot_given b props (codes "chardev", plain (val.Text []))).1 ≡ plain (val.Text (text_for props (codes "chardev")))
text-given b props e = go (find (λ (q : Given). bytes_eq q.0 (codes "chardev")) props) refl
  where
    go : (o : Option Given) → find (λ (q : Given). bytes_eq q.0 (codes "chardev")) props ≡ o
        → elim o as (λ _. Slot) [ None ↦ plain (val.Text []) | Some p ↦ given_to b (plain (val.Text [])) p.1 ]
        ≡ plain (val.Text (unwrap_or (option_and_then text_in (option_map (λ (p : Given). p.1) o)) []))
    go None q = refl
    go (Some p) q =
        let k : IsText p.1 = uart-text b p.1 (given-fits b SlotUart (codes "chardev") props e p q) in
        subst (λ (v : Val). plain v ≡ plain (val.Text (unwrap_or (text_in v) []))) (sym k.is) refl

-- the address of a DIMM

record IsAligned (v : Val) : Type 0 where
  at : ℕ
  is : v ≡ val.Uint at
  aligned : at % DIMM_ALIGN ≡ 0

and-last : (t u v : Bool) → (t && u && v) ≡ true → v ≡ true
and-last true true v e = e
and-last true false v e = absurd (let clash : false ≡ true = e in cc)
and-last false u v e = absurd (let clash : false ≡ true = e in cc)

admitted : (t : Bool) → (if t then None else Some E19) ≡ None → t ≡ true
admitted true e = refl
admitted false e = absurd (let clash : Some E19 ≡ None = e in cc)

dimm-addr : (b : Board) (v : Val) → refusal_by b (property_named MemDimm (codes "addr")) v ≡ None → IsAligned v
unfolding types
dimm-addr b (val.Uint at) e =
    let passes : (nat_le 0 at && nat_le at 18446744073709551615 && (at % DIMM_ALIGN == 0)) ≡ true = admitted _ e in
    record {
      at = at;
      is = refl;
      aligned = eqb-true (at % DIMM_ALIGN) 0 (and-last (nat_le 0 at) (nat_le at 18446744073709551615) (at % DIMM_ALIGN == 0) passes);
    }
dimm-addr b (val.Text text) e = absurd (let clash : Some E19 ≡ None = e in cc)
dimm-addr b (val.Bool v) e = absurd (let clash : Some E19 ≡ None = e in cc)
dimm-addr b (val.Int v) e = absurd (let clash : Some E19 ≡ None = e in cc)
dimm-addr b val.Nothing e = absurd (let clash : Some E19 ≡ None = e in cc)

addr-aligned : (b : Board) (props : List Given) → refusal_of b MemDimm props ≡ None → (at : ℕ) → number_for props (codes "addr") ≡ Some at
    → at % DIMM_ALIGN ≡ 0
addr-aligned b props e at k = go (find (λ (q : Given). bytes_eq q.0 (codes "addr")) props) refl
  where
    go : (o : Option Given) → find (λ (q : Given). bytes_eq q.0 (codes "addr")) props ≡ o → at % DIMM_ALIGN ≡ 0
    go None q = absurd (let clash : None ≡ Some at = rw q at k in cc)
    go (Some p) q =
        let a : IsAligned p.1 = dimm-addr b p.1 (given-fits b MemDimm (codes "addr") props e p q) in
        let is : a.at ≡ at = same_Some a.at at (rw (q, a.is) at k) in
        subst (λ (m : ℕ). m % DIMM_ALIGN ≡ 0) is a.aligned

-- the range of a DIMM

record RangeFits (b : Board) (size : ℕ) (g : Range) : Type 0 where
  size_is : g.size ≡ size
  aligned : g.at % DIMM_ALIGN ≡ 0
  window : is_in_window g ≡ true
  clear : overlaps_any g (ranges_of b) ≡ false

same_ok : (g k : Range) → ◌≡◌ {A = Result Range Code} (Ok g) (Ok k) → g ≡ k
same_ok g k e = ap (λ (r : Result Range Code). elim r as (λ _. Range) [ Ok y ↦ y | Err code ↦ g ]) e

range-given : (b : Board) (at size : ℕ) (g : Range) → at % DIMM_ALIGN ≡ 0 → range_for b (Some at) size ≡ Ok g → RangeFits b size g
range-given b at size g aligned e = go (is_in_window (range_at at size) && not (overlaps_any (range_at at size) (ranges_of b))) refl
  where
    go : (t : Bool) → (is_in_window (range_at at size) && not (overlaps_any (range_at at size) (ranges_of b))) ≡ t → RangeFits b size g
    go true p =
        let is : range_at at size ≡ g = same_ok (range_at at size) g (rw p at e) in
        let parts = and_parts (is_in_window (range_at at size)) (not (overlaps_any (range_at at size) (ranges_of b))) p in
        subst (RangeFits b size) is
        (record {
          size_is = refl;
          aligned = aligned;
          window = parts.0;
          clear = not-true (overlaps_any (range_at at size) (ranges_of b)) parts.1;
        })
    go false p = absurd (let clash : Err E40 ≡ Ok g = rw p at e in cc)

range-found : (b : Board) (size : ℕ) (g : Range) → range_for b None size ≡ Ok g → RangeFits b size g
range-found b size g e = go (free_address (ranges_of b) size DIMM_ALIGN) refl
  where
    go : (o : Option ℕ) → free_address (ranges_of b) size DIMM_ALIGN ≡ o → RangeFits b size g
    go None p = absurd (let clash : Err E41 ≡ Ok g = rw (range_for, p) at e in cc)
    go (Some at) p =
        let is : range_at at size ≡ g = same_ok (range_at at size) g (rw (range_for, p) at e) in
        let fits : fits_at (ranges_of b) size DIMM_ALIGN at ≡ true = least-passes (fits_at (ranges_of b) size DIMM_ALIGN) window_start window_size at p in
        let one = and_parts ((at % DIMM_ALIGN == 0) && is_in_window (range_at at size)) (not (overlaps_any (range_at at size) (ranges_of b))) fits in
        let two = and_parts (at % DIMM_ALIGN == 0) (is_in_window (range_at at size)) one.0 in
        subst (RangeFits b size) is
        (record {
          size_is = refl;
          aligned = eqb-true (at % DIMM_ALIGN) 0 two.0;
          window = two.1;
          clear = not-true (overlaps_any (range_at at size) (ranges_of b)) one.1;
        })

-- what a DIMM that nothing bars finds
record DimmPasses (b : Board) (props : List Given) : Type 0 where
  backend : ℕ
  target : target_for b MemoryBackend props (codes "memdev") ≡ Some backend
  free : list_any (has_backend b backend) (dimms b) ≡ false
  range : Range
  chosen : range_for b (number_for props (codes "addr")) (size_of b backend) ≡ Ok range
  fits : RangeFits b (size_of b backend) range

dimm-passes : (b : Board) (props : List Given) → refusal_of b MemDimm props ≡ None
    → range_barred b props (target_for b MemoryBackend props (codes "memdev")) ≡ None → DimmPasses b props
dimm-passes b props fits e = go (target_for b MemoryBackend props (codes "memdev")) refl
  where
    by_range : (m : ℕ) → target_for b MemoryBackend props (codes "memdev") ≡ Some m → list_any (has_backend b m) (dimms b) ≡ false
        → code_in (range_for b (number_for props (codes "addr")) (size_of b m)) ≡ None → DimmPasses b props
    by_range m q free k = choose (range_for b (number_for props (codes "addr")) (size_of b m)) refl (number_for props (codes "addr")) refl
      where
        choose : (r : Result Range Code) → range_for b (number_for props (codes "addr")) (size_of b m) ≡ r → (o : Option ℕ)
            → number_for props (codes "addr") ≡ o → DimmPasses b props
        choose (Err code) p o l = absurd (let clash : Some code ≡ None = rw p at k in cc)
        choose (Ok g) p (Some at) l =
            record {
              backend = m;
              target = q;
              free = free;
              range = g;
              chosen = p;
              fits = range-given b at (size_of b m) g (addr-aligned b props fits at l) (rw l at p);
            }
        choose (Ok g) p None l = record { backend = m; target = q; free = free; range = g; chosen = p; fits = range-found b (size_of b m) g (rw l at p) }

    go : (o : Option ℕ) → target_for b MemoryBackend props (codes "memdev") ≡ o → DimmPasses b props
    go None q = absurd (let clash : Some E38 ≡ None = rw q at e in cc)
    go (Some m) q =
        let parts = unbarred (list_any (has_backend b m) (dimms b)) E39 (code_in (range_for b (number_for props (codes "addr")) (size_of b m))) (rw q at e) in
        by_range m q parts.0 parts.1

-- its backend is one
target-memory : (b : Board) (props : List Given) (m : ℕ) → target_for b MemoryBackend props (codes "memdev") ≡ Some m
    → is_of b (codes "memory-backend") m ≡ true
target-memory b props m e =
    go (link_target b MemoryBackend (text_for props (codes "memdev"))) refl (target-fits b MemoryBackend (text_for props (codes "memdev")))
  where
    go : (r : Result (Option ℕ) Code) → link_target b MemoryBackend (text_for props (codes "memdev")) ≡ r
        → FitsResult b MemoryBackend (link_target b MemoryBackend (text_for props (codes "memdev"))) → is_of b (codes "memory-backend") m ≡ true
    go (Err code) q fits = absurd (let clash : None ≡ Some m = rw (target_for, q) at e in cc)
    go (Ok None) q fits = absurd (let clash : None ≡ Some m = rw (target_for, q) at e in cc)
    go (Ok (Some k)) q fits =
        let is : k ≡ m = same_Some k m (rw (target_for, q) at e) in
        subst (λ (j : ℕ). is_of b (codes "memory-backend") j ≡ true) is (rw q at fits)

memdev-given : (b : Board) (props : List Given) (m : ℕ) → target_for b MemoryBackend props (codes "memdev") ≡ Some m
    → (slot_given b props (codes "memdev", strong MemoryBackend None)).1 ≡ strong MemoryBackend (Some m)
memdev-given b props m e = go (find (λ (q : Given). bytes_eq q.0 (codes "memdev")) props) e
  where
    of : (v : Val) → elim (link_target b MemoryBackend (unwrap_or (text_in v) [])) as (λ _. Option ℕ) [ Ok target ↦ target | Err code ↦ None ] ≡ Some m
        → given_to b (strong MemoryBackend None) v ≡ strong MemoryBackend (Some m)
    of (val.Text path) k = result (link_target b MemoryBackend path) k
      where
        result : (r : Result (Option ℕ) Code) → elim r as (λ _. Option ℕ) [ Ok target ↦ target | Err code ↦ None ] ≡ Some m
            → strong MemoryBackend (target_given r) ≡ strong MemoryBackend (Some m)
        result (Err code) l = absurd (let clash : None ≡ Some m = l in cc)
        result (Ok target) l = ap (strong MemoryBackend) l
    of (val.Bool v) k = absurd (let clash : None ≡ Some m = k in cc)
    of (val.Int v) k = absurd (let clash : None ≡ Some m = k in cc)
    of (val.Uint v) k = absurd (let clash : None ≡ Some m = k in cc)
    of val.Nothing k = absurd (let clash : None ≡ Some m = k in cc)

    go : (o : Option Given)
        → elim (link_target b MemoryBackend (unwrap_or (option_and_then text_in (option_map (λ (p : Given). p.1) o)) [])) as (λ _. Option ℕ)
        [ Ok target ↦ target | Err code ↦ None ] ≡ Some m
        → elim o as (λ _. Slot) [ None ↦ strong MemoryBackend None | Some p ↦ given_to b (strong MemoryBackend None) p.1 ] ≡ strong MemoryBackend (Some m)
    go None k = absurd (let clash : None ≡ Some m = k in cc)
    go (Some p) k = of p.1 k

-- a plain slot stays plain
record IsPlain (s : Slot) : Type 0 where
  val : Val
  is : s ≡ plain val

plain-given : (b : Board) (props : List Given) (name : List ℕ) (w : Val) → IsPlain (slot_given b props (name, plain w)).1
plain-given b props name w = go (find (λ (q : Given). bytes_eq q.0 name) props) refl
  where
    go : (o : Option Given) → find (λ (q : Given). bytes_eq q.0 name) props ≡ o → IsPlain (slot_given b props (name, plain w)).1
    go None q = rw (slot_given, q) (record { val = w; is = refl })
    go (Some p) q = rw (slot_given, q) (record { val = p.1; is = refl })

-- the DIMMs of before

abbrev counts_in : Board → Record → Bool
counts_in b r = is_dimm r && is_realized b r.birth

abbrev range_at_it : Board → ℕ → List Range
range_at_it b x = option_map_or (λ (r : Record). range_in r.registers) (record_of b x) []

none-dimm : (b : Board) (p : ℕ → Bool) → list_any p (dimms b) ≡ false → (d : ℕ) → is_dimm_on b d ≡ true → p d ≡ false
none-dimm b p none d on = go (record_of b d) refl
  where
    parts : (is_of b (codes "mem-dimm") d ≡ true) × (is_realized b d ≡ true)
    parts = and_parts (is_of b (codes "mem-dimm") d) (is_realized b d) on

    none-of : (rs : List Record) → list_any p (map (λ (r : Record). r.birth) (filter (counts_in b) rs)) ≡ false → (r : Record) → found_at d rs ≡ Some r
        → counts_in b r ≡ true → p r.birth ≡ false
    none-of [] e r k c = cc
    none-of (x ∷ rs) e r k c = choose (counts_in b x) refl (x.birth == d) refl (none-of rs)
      where
        first : (t : Bool) → p x.birth ≡ t → counts_in b x ≡ true → p x.birth ≡ false
        first true q l = absurd (let clash : true ≡ false = rw (l, q) at e in cc)
        first false q l = q

        later : (t : Bool) → p x.birth ≡ t → counts_in b x ≡ true → list_any p (map (λ (y : Record). y.birth) (filter (counts_in b) rs)) ≡ false
        later true q l = absurd (let clash : true ≡ false = rw (l, q) at e in cc)
        later false q l = rw (l, q) at e

        choose : (t : Bool) → counts_in b x ≡ t → (u : Bool) → (x.birth == d) ≡ u
            → (list_any p (map (λ (y : Record). y.birth) (filter (counts_in b) rs)) ≡ false → (y : Record) → found_at d rs ≡ Some y
            → counts_in b y ≡ true → p y.birth ≡ false)
            → p r.birth ≡ false
        choose true l true m rest =
            let is : x ≡ r = same_Some x r (rw m at k) in
            ap (λ (y : Record). p y.birth) (sym is) ∙ first (p x.birth) refl l
        choose true l false m rest = rest (later (p x.birth) refl l) r (rw m at k) c
        choose false l true m rest =
            let is : x ≡ r = same_Some x r (rw m at k) in
            absurd (let clash : true ≡ false = sym c ∙ ap (λ (y : Record). counts_in b y) (sym is) ∙ l in cc)
        choose false l false m rest = rest (rw l at e) r (rw m at k) c

    go : (o : Option Record) → record_of b d ≡ o → p d ≡ false
    go None q = absurd (let clash : false ≡ true = rw q at parts.0 in cc)
    go (Some r) q =
        let is : r.birth ≡ d = found-birth d b.records r q in
        let kind : is_dimm r ≡ true = sym (kind-at b d r q (codes "mem-dimm")) ∙ parts.0 in
        let lit : is_realized b r.birth ≡ true = ap (is_realized b) is ∙ parts.1 in
        ap p (sym is) ∙ none-of b.records none r q (rw (kind, lit) refl)

any-split : (g : Range) (xs ys : List Range) → overlaps_any g (xs ++ ys) ≡ false → (overlaps_any g xs ≡ false) × (overlaps_any g ys ≡ false)
any-split g [] ys e = (refl, e)
any-split g (x ∷ xs) ys e = go (overlap g x) refl (any-split g xs ys)
  where
    go : (t : Bool) → overlap g x ≡ t → (overlaps_any g (xs ++ ys) ≡ false → (overlaps_any g xs ≡ false) × (overlaps_any g ys ≡ false))
        → (overlaps_any g (x ∷ xs) ≡ false) × (overlaps_any g ys ≡ false)
    go true p rest = absurd (let clash : true ≡ false = rw p at e in cc)
    go false p rest = let k = rest (rw p at e) in (rw p k.0, k.1)

none-each : (g : Range) (f : ℕ → List Range) (ds : List ℕ) → overlaps_any g (flat_map f ds) ≡ false → list_any (λ d. overlaps_any g (f d)) ds ≡ false
none-each g f [] e = refl
none-each g f (d ∷ ds) e =
    let k = any-split g (f d) (flat_map f ds) e in
    rw k.0 (none-each g f ds k.1)

-- a range that overlaps none of those of DIMMs
clear-of : (b : Board) (g : Range) → overlaps_any g (ranges_of b) ≡ false → (d : ℕ) (s : Range) → is_dimm_on b d ≡ true → StandsOn b d s → overlap g s ≡ false
clear-of b g clear d s on stands = go (overlap g s) refl
  where
    none : overlaps_any g (range_at_it b d) ≡ false
    none = none-dimm b (λ x. overlaps_any g (range_at_it b x)) (none-each g (range_at_it b) (dimms b) clear) d on

    its : (o : Option Record) → option_map (λ (x : Record). x.registers) o ≡ Some (dimm (record { address = s.at; size = s.size }))
        → option_map_or (λ (r : Record). range_in r.registers) o [] ≡ s ∷ []
    its None e = absurd (let clash : None ≡ Some (dimm (record { address = s.at; size = s.size })) = e in cc)
    its (Some r) e = ap range_in (same_Some r.registers (dimm (record { address = s.at; size = s.size })) e)

    go : (t : Bool) → overlap g s ≡ t → overlap g s ≡ false
    go true p =
        let own : overlaps_any g (s ∷ []) ≡ false = sym (ap (overlaps_any g) (its (record_of b d) stands)) ∙ none in
        absurd (let clash : true ≡ false = rw p at own in cc)
    go false p = p

and-swap : (t u : Bool) → (t && u) ≡ false → (u && t) ≡ false
and-swap true true e = e
and-swap true false e = refl
and-swap false true e = refl
and-swap false false e = refl

overlap-swap : (g s : Range) → overlap g s ≡ false → overlap s g ≡ false
overlap-swap g s e = and-swap (nat_lt g.at (s.at + s.size)) (nat_lt s.at (g.at + g.size)) e

-- the ring of a UART that nothing bars
record RingPasses (b : Board) (id : List ℕ) : Type 0 where
  there : id ≢ [] → has_ring b id ≡ true
  free : id ≢ [] → list_any (claims_ring b id) b.records ≡ false

ring-passes : (b : Board) (id : List ℕ) → ring_barred b id ≡ None → RingPasses b id
ring-passes b [] e = record { there = λ some. absurd (some refl); free = λ some. absurd (some refl) }
ring-passes b (c ∷ id) e =
    let first = unbarred (not (has_ring b (c ∷ id))) E36 (if list_any (claims_ring b (c ∷ id)) b.records then Some E37 else None) e in
    let second = unbarred (list_any (claims_ring b (c ∷ id)) b.records) E37 None first.1 in
    record { there = λ some. not-false (has_ring b (c ∷ id)) first.0; free = λ some. second.0 }

passes-realize : (b : Board) (t : TypeId) (bus : ℕ) (props : List Given) → barred_late b t bus props ≡ None → realize_barred b t props ≡ None
passes-realize b t bus props e =
    let place_stage : Option (ℕ × Code) = at_stage 5 (place_barred b t bus props) in
    let later : Option (ℕ × Code) = first_of (at_stage 6 (realize_barred b t props) ∷ at_stage 8 (notice_barred b) ∷ []) in
    let one : (at_stage 4 (refusal_of b t props) ≡ None) × (option_or place_stage later ≡ None) =
    or-none (at_stage 4 (refusal_of b t props)) (option_or place_stage later) e in
    let two : (place_stage ≡ None) × (later ≡ None) = or-none place_stage later one.1 in
    let three : (at_stage 6 (realize_barred b t props) ≡ None) × (first_of (at_stage 8 (notice_barred b) ∷ []) ≡ None) =
    or-none (at_stage 6 (realize_barred b t props)) (first_of (at_stage 8 (notice_barred b) ∷ [])) two.1 in
    stage-none 6 (realize_barred b t props) three.0

-- a device that is added
module _ (b : Board) (a : Wanted) (devices : SoundDevices b) (h : SoundBackends b) (t : TypeId) (bus : ℕ) (k : Accepted b t bus a) where
  abbrev n : ℕ
  n = b.born + 1

  abbrev resources : Resources
  resources = resources_of b t bus a.props

  abbrev c : Board
  c = with_plugged b t a (resources_of b t bus a.props)

  rest : PinsRootAlone b
  rest = rest-from_sound b devices.tree

  absent : (m : ℕ) → b.born < m → record_of b m ≡ None
  absent = absent-above b rest.used.firm

  after : SoundTree c
  after = sound-from_rest c (plugged-rest b t a resources rest (shut-above b.born rest.used.firm.begun) k.place)

  same : c.rings ≡ b.rings
  same = (devices_stay_lem.added b t a resources).rings

  grown : Growing b absent c
  grown = growing-all b absent t a resources

  old : (x : ℕ) → (x == n) ≡ false → Old b c devices.tree after x
  old x apart = grown.others x apart

  memory-apart : (m : ℕ) → is_of b (codes "memory-backend") m ≡ true → (m == n) ≡ false
  memory-apart m e = go (m == n) refl
    where
      go : (u : Bool) → (m == n) ≡ u → (m == n) ≡ false
      go true p =
          let none : record_of b m ≡ None = ap (record_of b) (eqb-true m n p) ∙ absent n (omega arith) in
          absurd (let clash : false ≡ true = rw none at e in cc)
      go false p = p

  joined : Joined devices.places.0 b n bus resources.slot a.id t (done b bus resources.slot a.id) c
  joined = accepted-joined devices.places.0 b a rest devices.places.1 t bus k

  kind : kind_of c n ≡ Some t
  kind = joined.kind

  kind-of : (name : List ℕ) → is_of c name n ≡ true → is_a t name ≡ true
  kind-of name e = sym (ap (λ (o : Option TypeId). option_map_or (λ (x : TypeId). is_a x name) o false) kind) ∙ e

  passed : Passes b t bus a
  passed = passes b t bus a k

  -- as a UART
  own-uart : t ≡ SlotUart → text_at c n (codes "chardev") ≡ Some (text_for a.props (codes "chardev"))
  unfolding types
  own-uart is =
      ap (λ (o : Option Slot). option_and_then text_in (option_and_then plain_in o))
      (own-is b absent t a resources (codes "chardev") (record { slot = refl; parent_bus = refl; realized = refl; source = refl }) refl (plain (val.Text []))
      (subst (λ (x : TypeId). first_row x (codes "chardev") (slots_of x) ≡ Some (plain (val.Text []))) (sym is) refl)
      ∙ ap Some (text-given b a.props (subst (λ (x : TypeId). refusal_of b x a.props ≡ None) is passed.properties)))

  ring : t ≡ SlotUart → RingPasses b (text_for a.props (codes "chardev"))
  ring is =
      ring-passes b (text_for a.props (codes "chardev"))
      (subst (λ (x : TypeId). realize_barred b x a.props ≡ None) is (passes-realize b t bus a.props k.late))

  is-uart : is_uart_on c n ≡ true → t ≡ SlotUart
  is-uart on = uart-only t (kind-of (codes "slot-uart") (and_parts (is_of c (codes "slot-uart") n) (is_realized c n) on).0)

  names-own : is_uart_on c n ≡ true → NamesRing c n
  names-own on =
      let is : t ≡ SlotUart = is-uart on in
      record {
        id = text_for a.props (codes "chardev");
        chardev = own-uart is;
        there = λ some.
            ap (λ (rings : List Ring). list_any (λ (r : Ring). bytes_eq r.id (text_for a.props (codes "chardev"))) rings) same ∙ (ring is).there some;
      }

  -- no other names its ring
  alone-uart : (y : ℕ) (id : List ℕ) → is_uart_on c n ≡ true → (y == n) ≡ false → is_uart_on c y ≡ true → id ≢ [] → text_at c n (codes "chardev") ≡ Some id
      → text_at c y (codes "chardev") ≡ Some id → ⊥
  alone-uart y id on apart also some e f =
      let is : t ≡ SlotUart = is-uart on in
      let own : text_for a.props (codes "chardev") ≡ id = same_Some (text_for a.props (codes "chardev")) id (sym (own-uart is) ∙ e) in
      let free : list_any (claims_ring b id) b.records ≡ false =
      subst (λ (x : List ℕ). list_any (claims_ring b x) b.records ≡ false) own ((ring is).free (λ none. some (sym own ∙ none))) in
      let before : (is_uart_on b y ≡ true) × (text_at b y (codes "chardev") ≡ Some id) =
      uart-before b c devices.tree after same h.claims y id (old y apart) also f in
      claims-it b id free y before.0 before.1

  -- as a DIMM
  is-dimm : is_dimm_on c n ≡ true → t ≡ MemDimm
  is-dimm on = dimm-only t (kind-of (codes "mem-dimm") (and_parts (is_of c (codes "mem-dimm") n) (is_realized c n) on).0)

  module _ (is : t ≡ MemDimm) where
    fits : DimmPasses b a.props
    fits =
        dimm-passes b a.props (subst (λ (x : TypeId). refusal_of b x a.props ≡ None) is passed.properties)
        (subst (λ (x : TypeId). kind_barred b x bus a.props ≡ None) is passed.kind)

    range-claimed : (resources_of b t bus a.props).range ≡ Some fits.range
    range-claimed =
        subst (λ (x : TypeId). range_of b x a.props ≡ Some fits.range) (sym is)
        (ap (option_and_then (λ m. ok_in (range_for b (number_for a.props (codes "addr")) (size_of b m)))) fits.target ∙ ap ok_in fits.chosen)

    apart-memdev : Apart (codes "memdev")
    apart-memdev = record { slot = refl; parent_bus = refl; realized = refl; source = refl }

    first-memdev : first_row t (codes "memdev") (slots_of t) ≡ Some (strong MemoryBackend None)
    unfolding types
    first-memdev = subst (λ (x : TypeId). first_row x (codes "memdev") (slots_of x) ≡ Some (strong MemoryBackend None)) (sym is) refl

    first-addr : first_row t (codes "addr") (slots_of t) ≡ Some (plain val.Nothing)
    unfolding types
    first-addr = subst (λ (x : TypeId). first_row x (codes "addr") (slots_of x) ≡ Some (plain val.Nothing)) (sym is) refl

    own-backend : backend_of c n ≡ Some fits.backend
    own-backend =
        ap (option_and_then strong_in)
        (own-is b absent t a resources (codes "memdev") apart-memdev refl (strong MemoryBackend None) first-memdev
        ∙ ap Some (memdev-given b a.props fits.backend fits.target))

    own-at : number_at c n (codes "addr") ≡ Some fits.range.at
    own-at =
        let p : IsPlain (slot_given b a.props (codes "addr", plain val.Nothing)).1 = plain-given b a.props (codes "addr") val.Nothing in
        ap (λ (o : Option Slot). option_and_then number_in (option_and_then plain_in o))
        (own-addr b absent t a resources fits.range range-claimed val.Nothing p.val first-addr p.is)

    own-ranges : ranges_at c n ≡ Some (fits.range ∷ [])
    own-ranges = own-range b absent t a resources fits.range range-claimed (codes "memdev") apart-memdev refl (strong MemoryBackend None) first-memdev

    own-stands : StandsOn c n fits.range
    own-stands =
        go (record_of c n) own-ranges
      where
        go : (o : Option Record) → option_map (λ (r : Record). range_in r.registers) o ≡ Some (fits.range ∷ [])
            → option_map (λ (x : Record). x.registers) o ≡ Some (dimm (record { address = fits.range.at; size = fits.range.size }))
        go None e = absurd (let clash : None ≡ Some (fits.range ∷ []) = e in cc)
        go (Some r) e = ap Some (dimm-of r.registers fits.range (same_Some (range_in r.registers) (fits.range ∷ []) e))

    memory-old : is_of b (codes "memory-backend") fits.backend ≡ true
    memory-old = target-memory b a.props fits.backend fits.target

    there : is_some (kind_of c fits.backend) ≡ true
    there = go (record_of c n) refl
      where
        go : (o : Option Record) → record_of c n ≡ o → is_some (kind_of c fits.backend) ≡ true
        go None q = absurd (let clash : None ≡ Some t = sym (ap (option_map (λ (r : Record). r.kind)) q) ∙ kind in cc)
        go (Some r) q = target-there c after n r q is_memdev fits.backend (at-backend c after n r q fits.backend own-backend)

    range-own : HasRange c n
    range-own =
        let memory : (is_of c (codes "memory-backend") fits.backend ≡ true) × (size_of c fits.backend ≡ size_of b fits.backend) =
        memory-same b c devices.tree after fits.backend (old fits.backend (memory-apart fits.backend memory-old)) there memory-old in
        record {
          range = fits.range;
          backend = fits.backend;
          memdev = own-backend;
          memory = memory.0;
          addr = own-at;
          size = fits.fits.size_is ∙ sym memory.1;
          aligned = fits.fits.aligned;
          window = fits.fits.window;
          stands = own-stands;
        }

    -- no other has its backend, and none overlaps it
    alone-dimm : (e m : ℕ) → (e == n) ≡ false → is_dimm_on c e ≡ true → backend_of c n ≡ Some m → backend_of c e ≡ Some m → ⊥
    alone-dimm e m apart on q r =
        let own : fits.backend ≡ m = same_Some fits.backend m (sym own-backend ∙ q) in
        let was : backend_of b e ≡ Some m = backend-before b c devices.tree after same h.claims e m (old e apart) on r in
        let before : is_dimm_on b e ≡ true = dimm-before b c devices.tree after same h.claims e (old e apart) on in
        let none : has_backend b fits.backend e ≡ false = none-dimm b (has_backend b fits.backend) fits.free e before in
        let some : has_backend b fits.backend e ≡ true =
        ap (λ (o : Option ℕ). option_map_or (λ x. x == fits.backend) o false) was ∙ eq-eqb m fits.backend (sym own) in
        let clash : true ≡ false = sym some ∙ none in
        absurd cc

    clear-own : (e : ℕ) (r s : Range) → (e == n) ≡ false → is_dimm_on c e ≡ true → StandsOn c n r → StandsOn c e s → overlap r s ≡ false
    clear-own e r s apart on q l =
        let same_registers : dimm (record { address = fits.range.at; size = fits.range.size }) ≡ dimm (record { address = r.at; size = r.size }) =
        same_Some (dimm (record { address = fits.range.at; size = fits.range.size })) (dimm (record { address = r.at; size = r.size })) (sym own-stands ∙ q) in
        let lists : fits.range ∷ [] ≡ r ∷ [] = ap range_in same_registers in
        let own : fits.range ≡ r = ap (λ (gs : List Range). elim gs as (λ _. Range) [ [] ↦ r | g ∷ _ ↦ g ]) lists in
        let was : StandsOn b e s = stands-before b c devices.tree after same h.claims e s (old e apart) on l in
        let before : is_dimm_on b e ≡ true = dimm-before b c devices.tree after same h.claims e (old e apart) on in
        subst (λ (g : Range). overlap g s ≡ false) own (clear-of b fits.range fits.fits.clear e s before was)

  -- it claims what it was given
  pub added-given : ClaimsGiven b t bus a.props (with_plugged b t a (resources_of b t bus a.props)) (b.born + 1)
  added-given =
      record {
        realized = joined.stands_realized;
        kind = kind;
        on = joined.on;
        slot = joined.at;
        ring = own-uart;
        backend = λ is. own-backend is ∙ sym (fits is).target;
        range = λ is. own-ranges is ∙ sym (ap (option_map (λ (g : Range). g ∷ [])) (range-claimed is));
      }

  -- of the others the same are realized, and claim the same
  pub added-same : (x : ℕ) → (x == (b.born + 1)) ≡ false → is_realized (with_plugged b t a (resources_of b t bus a.props)) x ≡ is_realized b x
  added-same x apart = go (record_of b x) refl
    where
      go : (o : Option Record) → record_of b x ≡ o → is_realized c x ≡ is_realized b x
      go None q = let none : is_live b x ≡ false = ap is_some q in rw q (joined.unrealized x none apart)
      go (Some r) q = joined.realized x (ap is_some q)

  pub added-stay : (x : ℕ) → (x == (b.born + 1)) ≡ false → is_realized (with_plugged b t a (resources_of b t bus a.props)) x ≡ true
      → ClaimsAlike b (with_plugged b t a (resources_of b t bus a.props)) x
  added-stay x apart e =
      let lit : is_realized b x ≡ true = sym (added-same x apart) ∙ e in
      let home : IsHome b x = devices.places.1.home x (devices.places.1.only x lit) (λ z. cc) in
      stay-at b c devices.tree after x (old x apart) e home.bus (joined.bus_same x (realized-live b x lit) ∙ home.on)

  -- each is the new device, or was there
  is-new : (x : ℕ) → (x ≡ n) ⊎ ((x == n) ≡ false)
  is-new x = go (x == n) refl
    where
      go : (u : Bool) → (x == n) ≡ u → (x ≡ n) ⊎ ((x == n) ≡ false)
      go true p = inl (eqb-true x n p)
      go false p = inr p

  all-rings : (x : ℕ) → (x ≡ n) ⊎ ((x == n) ≡ false) → is_uart_on c x ≡ true → NamesRing c x
  all-rings x (inl is) on = subst (NamesRing c) (sym is) (names-own (subst (λ (y : ℕ). is_uart_on c y ≡ true) is on))
  all-rings x (inr apart) on = rings-old b c devices.tree after same h.claims x (old x apart) on

  all-one_uart : (x y : ℕ) (id : List ℕ) → (x ≡ n) ⊎ ((x == n) ≡ false) → (y ≡ n) ⊎ ((y == n) ≡ false) → is_uart_on c x ≡ true → is_uart_on c y ≡ true → id ≢ []
      → text_at c x (codes "chardev") ≡ Some id → text_at c y (codes "chardev") ≡ Some id → x ≡ y
  all-one_uart x y id (inl is) (inl also) on other some e f = is ∙ sym also
  all-one_uart x y id (inl is) (inr apart) on other some e f =
      absurd
      (alone-uart y id (subst (λ (z : ℕ). is_uart_on c z ≡ true) is on) apart other some
      (subst (λ (z : ℕ). text_at c z (codes "chardev") ≡ Some id) is e) f)
  all-one_uart x y id (inr apart) (inl also) on other some e f =
      absurd
      (alone-uart x id (subst (λ (z : ℕ). is_uart_on c z ≡ true) also other) apart on some
      (subst (λ (z : ℕ). text_at c z (codes "chardev") ≡ Some id) also f) e)
  all-one_uart x y id (inr apart) (inr further) on other some e f =
      one_uart-old b c devices.tree after same h.claims x y id (old x apart) (old y further) on other some e f

  all-ranges : (x : ℕ) → (x ≡ n) ⊎ ((x == n) ≡ false) → is_dimm_on c x ≡ true → HasRange c x
  all-ranges x (inl is) on =
      let its : is_dimm_on c n ≡ true = subst (λ (y : ℕ). is_dimm_on c y ≡ true) is on in
      subst (HasRange c) (sym is) (range-own (is-dimm its))
  all-ranges x (inr apart) on =
      ranges-old b c devices.tree after same h.claims x (old x apart) (λ m e. old m (memory-apart m e)) on

  all-one_dimm : (x y m : ℕ) → (x ≡ n) ⊎ ((x == n) ≡ false) → (y ≡ n) ⊎ ((y == n) ≡ false) → is_dimm_on c x ≡ true → is_dimm_on c y ≡ true
      → backend_of c x ≡ Some m → backend_of c y ≡ Some m → x ≡ y
  all-one_dimm x y m (inl is) (inl also) on other e f = is ∙ sym also
  all-one_dimm x y m (inl is) (inr apart) on other e f =
      absurd
      (alone-dimm (is-dimm (subst (λ (z : ℕ). is_dimm_on c z ≡ true) is on)) y m apart other (subst (λ (z : ℕ). backend_of c z ≡ Some m) is e) f)
  all-one_dimm x y m (inr apart) (inl also) on other e f =
      absurd
      (alone-dimm (is-dimm (subst (λ (z : ℕ). is_dimm_on c z ≡ true) also other)) x m apart on (subst (λ (z : ℕ). backend_of c z ≡ Some m) also f) e)
  all-one_dimm x y m (inr apart) (inr further) on other e f =
      h.claims.one_dimm x y m (dimm-before b c devices.tree after same h.claims x (old x apart) on)
      (dimm-before b c devices.tree after same h.claims y (old y further) other)
      (backend-before b c devices.tree after same h.claims x m (old x apart) on e)
      (backend-before b c devices.tree after same h.claims y m (old y further) other f)

  all-apart : (x y : ℕ) (r s : Range) → (x ≡ n) ⊎ ((x == n) ≡ false) → (y ≡ n) ⊎ ((y == n) ≡ false) → is_dimm_on c x ≡ true → is_dimm_on c y ≡ true → x ≢ y
      → StandsOn c x r → StandsOn c y s → overlap r s ≡ false
  all-apart x y r s (inl is) (inl also) on other differ e f = absurd (differ (is ∙ sym also))
  all-apart x y r s (inl is) (inr apart) on other differ e f =
      clear-own (is-dimm (subst (λ (z : ℕ). is_dimm_on c z ≡ true) is on)) y r s apart other (subst (λ (z : ℕ). StandsOn c z r) is e) f
  all-apart x y r s (inr apart) (inl also) on other differ e f =
      overlap-swap s r
      (clear-own (is-dimm (subst (λ (z : ℕ). is_dimm_on c z ≡ true) also other)) x s r apart on (subst (λ (z : ℕ). StandsOn c z s) also f) e)
  all-apart x y r s (inr apart) (inr further) on other differ e f =
      h.claims.apart x y r s (dimm-before b c devices.tree after same h.claims x (old x apart) on)
      (dimm-before b c devices.tree after same h.claims y (old y further) other) differ
      (stands-before b c devices.tree after same h.claims x r (old x apart) on e)
      (stands-before b c devices.tree after same h.claims y s (old y further) other f)

  pub added-backends : SoundBackends (with_plugged b t a (resources_of b t bus a.props))
  added-backends =
      record {
        rings = subst AreGoodRings (sym same) h.rings;
        claims =
            record {
              rings = λ x on. all-rings x (is-new x) on;
              one_uart = λ x y id on other some e f. all-one_uart x y id (is-new x) (is-new y) on other some e f;
              ranges = λ x on. all-ranges x (is-new x) on;
              one_dimm = λ x y m on other e f. all-one_dimm x y m (is-new x) (is-new y) on other e f;
              apart = λ x y r s on other differ e f. all-apart x y r s (is-new x) (is-new y) on other differ e f;
            };
      }

pub plugged-backends : (b : Board) (a : Wanted) → SoundDevices b → SoundBackends b → SoundBackends (plug b a).board
plugged-backends b a devices h =
    after-plug SoundBackends b a h (λ t bus stage. backends-beside b (plug_attempt b t bus stage) refl refl h)
    (λ t bus k. added-backends b a devices h t bus k)
