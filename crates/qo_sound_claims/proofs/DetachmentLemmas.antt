-- A device that is detached, with all that is below it: what stays claims no more than before.
use Rattle.std.proofs.Common.{rules, ◌≡◌, inl, inr, refl, ap, sym, subst, ◌∙◌, ℕ, Bool, true, false, ◌&&◌, ◌==◌, List, [], ◌∷◌, filter_map, slice_get, Option, Some, None, option_map, codes}
use Rattle.qo_model.proofs.Common.{ANONYMOUS_BIRTH, PERIPHERAL_BIRTH, TypeId, Board, Record, Slot, plain, child, strong, weak, alias, kind_of, record_of, slots_at, slot_at, cut, with_cut, bus_of, buses_of, kids_of, strong_in, index_from, is_child, is_of, drop_slot, edit, pin, without_hold, is_a, types, detach, is_bus_child, is_child_slot, is_named, left_bus, left_parent, let_go_where, names_kid, take_slot, take_where}
use Rattle.std.proofs.lemmas.Bool.{and_parts, eqb-true, eq-eqb}
use Rattle.std.proofs.lemmas.Option.{same_Some}
use Rattle.std.proofs.lemmas.Slice.Eq.{bytes_eq-Decides}
use Rattle.qo_values.proofs.EachLemmas.{each}
use Rattle.qo_model.specs.Unplug.{first_of}
use Rattle.qo_model.proofs.FirstSlotLemmas.{slots_in, Found, found-at}
use Rattle.qo_sound.specs.TreeKept.{SoundTree}
use Rattle.qo_sound.proofs.ReadLemmas.{dropped-at}
use Rattle.qo_sound.proofs.SlotLemmas.{kept-slot}
use Rattle.qo_sound_devices.specs.SoundPlaces.{kid_entry, listed, PlacesBut, stands}
use Rattle.qo_sound_devices.proofs.DetachmentLemmas.{first-among}
use Rattle.qo_sound_devices.proofs.DepthLemmas.{is-bus_of, kid-of}
use Rattle.qo_sound_devices.proofs.PlugLemmas.{stands-device}
use Rattle.qo_sound_clocks.proofs.SlotLemmas.{Slots}
use Rattle.qo_steps.proofs.ApartLemmas.{ApartSteps, detached-on}
use Rattle.qo_sound_claims.specs.SoundClaims.{HasRange, is_dimm_on, SoundClaims}
use Rattle.qo_sound_claims.proofs.DecreaseLemmas.{at-record, Fewer, fewer-after, fewer-drop, fewer-pin, fewer-slots, fewer-unpin, fewer-unrealize, fewer-where, fewer-none, Harmless, LessRecord, NearAt, Spares}
use Rattle.qo_sound_claims.proofs.ReadLemmas.{backend-at, kind-at, realized-at}
use Rattle.qo_sound_claims.proofs.SlotLemmas.{is_any, is_memdev, less-taken, lit_in, points, spared-dropped}

-- slots that hold no backend

child-harmless : (d : ℕ) (s : List ℕ × Slot) → is_child d s.1 ≡ true → Harmless s
child-harmless d (name, plain v) e = cc
child-harmless d (name, child m) e = inl refl
child-harmless d (name, strong t target) e = absurd (let clash : false ≡ true = e in cc)
child-harmless d (name, weak t target) e = inl refl
child-harmless d (name, alias m property) e = inl refl

bus-harmless : (m : ℕ) (s : List ℕ × Slot) → is_bus_child m s ≡ true → Harmless s
bus-harmless m s e = child-harmless m s (and_parts (is_child m s.1) _ e).0

parent-harmless : (s : List ℕ × Slot) → is_named (codes "parent_bus") s ≡ true → Harmless s
parent-harmless s e = inr (ap is_memdev ((bytes_eq-Decides s.0 (codes "parent_bus")).0 e))

-- a slot that was let go, at its place

-- no device is a backend

device-alone : (t : TypeId) → is_a t (codes "device") ≡ true → is_a t (codes "memory-backend") ≡ false
unfolding types
device-alone = each (λ (t : TypeId). is_a t (codes "device") ≡ true → is_a t (codes "memory-backend") ≡ false) (search rules)

device-of : (b : Board) (d : ℕ) → is_of b (codes "device") d ≡ true → is_of b (codes "memory-backend") d ≡ false
device-of b d e = go (kind_of b d) refl
  where
    go : (o : Option TypeId) → kind_of b d ≡ o → is_of b (codes "memory-backend") d ≡ false
    go None q = rw q refl
    go (Some t) q = rw q (device-alone t (rw q at e))

-- first kids and first buses

first-points : (k : ℕ) (slots : Slots) → first_of (filter_map (λ (s : List ℕ × Slot). strong_in s.1) slots) ≡ Some k → points is_any k slots ≡ true
first-points k [] e = cc
first-points k ((name, plain v) ∷ slots) e = first-points k slots e
first-points k ((name, child m) ∷ slots) e = first-points k slots e
first-points k ((name, strong t None) ∷ slots) e = first-points k slots e
first-points k ((name, strong t (Some m)) ∷ slots) e = let own : (m == k) ≡ true = eq-eqb m k (same_Some m k e) in rw own refl
first-points k ((name, weak t target) ∷ slots) e = first-points k slots e
first-points k ((name, alias m property) ∷ slots) e = first-points k slots e

points-listed : (k : ℕ) (slots : Slots) → points is_any k slots ≡ true → listed k (filter_map kid_entry slots) ≡ true
points-listed k [] e = e
points-listed k ((name, plain v) ∷ slots) e = points-listed k slots e
points-listed k ((name, child m) ∷ slots) e = points-listed k slots e
points-listed k ((name, strong t None) ∷ slots) e = points-listed k slots e
points-listed k ((name, strong t (Some m)) ∷ slots) e = go (m == k) refl (points-listed k slots)
  where
    go : (u : Bool) → (m == k) ≡ u → (points is_any k slots ≡ true → listed k (filter_map kid_entry slots) ≡ true)
        → listed k ((name, m) ∷ filter_map kid_entry slots) ≡ true
    go true p rest = rw p refl
    go false p rest = rw p (rest (rw p at e))
points-listed k ((name, weak t target) ∷ slots) e = points-listed k slots e
points-listed k ((name, alias m property) ∷ slots) e = points-listed k slots e

module _ (b : Board) (tree : SoundTree b) (depth : ℕ → ℕ) (places : PlacesBut depth None (λ x. false) b) (claims : SoundClaims b) where
  -- a device of before is no backend
  abbrev NoBackend : ℕ → Type 0
  NoBackend d = is_of b (codes "memory-backend") d ≡ false

  pub stood-none : (d : ℕ) → stands b d ≡ true → is_of b (codes "memory-backend") d ≡ false
  stood-none d e = device-of b d (stands-device depth None (λ x. false) b places d e)

  -- so none of them is that of a realized DIMM
  claimed : (n k : ℕ) (r : Record) → record_of b n ≡ Some r → is_a r.kind (codes "mem-dimm") ≡ true → lit_in r.slots ≡ true
      → points is_memdev k r.slots ≡ true → is_of b (codes "memory-backend") k ≡ true
  claimed n k r e kind lit q =
      let is : is_of b (codes "mem-dimm") n ≡ true = kind-at b n r e (codes "mem-dimm") ∙ kind in
      let on : is_dimm_on b n ≡ true = rw is (realized-at b tree n r e ∙ lit) in
      let range : HasRange b n = claims.ranges n on in
      let own : range.backend ≡ k = same_Some range.backend k (sym range.memdev ∙ backend-at b tree n r e k q) in
      subst (λ (m : ℕ). is_of b (codes "memory-backend") m ≡ true) own range.memory

  free : (c : Board) → Fewer true b c → (n k : ℕ) → NoBackend k → (s : Record) → record_of c n ≡ Some s → is_a s.kind (codes "mem-dimm") ≡ true
      → lit_in s.slots ≡ true → points is_memdev k s.slots ≡ true → ⊥
  free c h n k none s e kind lit q = go (record_of b n) refl
    where
      go : (o : Option Record) → record_of b n ≡ o → ⊥
      go None p = let clash : NearAt true None (Some s) = rw (p, e) at (h n) in clash
      go (Some r) p =
          let less : LessRecord true r s = rw (p, e) at (h n) in
          let was : is_of b (codes "memory-backend") k ≡ true =
          claimed n k r p (ap (λ (t : TypeId). is_a t (codes "mem-dimm")) (sym less.kind) ∙ kind) (less.slots.lit lit) (less.slots.back k q) in
          let clash : true ≡ false = sym was ∙ none in
          absurd cc

  -- a link to a kid is let go and removed

  spares-kid : (c : Board) → Fewer true b c → (n i d : ℕ) (own : List ℕ) (t : TypeId) → NoBackend d
      → slice_get (slots_at c n) i ≡ Some (own, strong t (Some d)) → Spares c n i
  spares-kid c h n i d own t none at r e k kind lit q = go (d == k) refl
    where
      go : (u : Bool) → (d == k) ≡ u → points is_memdev k (without_hold i r.slots) ≡ true
      go true p = absurd (free c h n k (subst NoBackend (eqb-true d k p) none) r e kind lit q)
      go false p =
          spared-dropped is_memdev k i r.slots (own, strong t (Some d)) (at-record c n i (own, strong t (Some d)) r at e)
          (rw p (other (is_memdev own))) q
        where
          other : (u : Bool) → (u && false) ≡ false
          other true = refl
          other false = refl

  taken : (c : Board) → Fewer true b c → (n i d : ℕ) (own : List ℕ) (t : TypeId) → NoBackend d
      → slice_get (slots_at c n) i ≡ Some (own, strong t (Some d)) → Fewer true b (take_slot c n i)
  unfolding cut
  taken c h n i d own t none at =
      let there : slot_at c n i ≡ Some (strong t (Some d)) = ap (option_map (λ (s : List ℕ × Slot). s.1)) at in
      rw (take_slot, there)
      (fewer-after true b (Some d) (edit n (with_cut i) x)
      (fewer-slots true b n (with_cut i) (λ r. refl) (λ r. refl) (λ r. refl) x
      (λ r e.
      less-taken (is_a r.kind (codes "mem-dimm")) (true && is_a r.kind (codes "bus")) i r.slots (own, strong t None)
      (sym (ap (λ (ss : Slots). slice_get ss i) (dropped-at c n i (own, strong t (Some d)) at r e))
      ∙ kept-slot i (slots_at c n) own (strong t (Some d)) (strong t None) at refl)
      refl refl)
      (fewer-drop true b c n i (spares-kid c h n i d own t none at) h)))
    where
      x : Board
      x = drop_slot c n i

  take : (d : ℕ) → NoBackend d → (n : ℕ) (c : Board) → Fewer true b c → Fewer true b (take_where (names_kid d) n c)
  take d none n c h = go (index_from (names_kid d) 0 (slots_at c n)) refl
    where
      of : (i : ℕ) (x : List ℕ × Slot) → slice_get (slots_at c n) i ≡ Some x → names_kid d x ≡ true → Fewer true b (take_slot c n i)
      of i (own, plain v) at passes = absurd (let clash : false ≡ true = passes in cc)
      of i (own, child m) at passes = absurd (let clash : false ≡ true = passes in cc)
      of i (own, strong t None) at passes = absurd (let clash : false ≡ true = passes in cc)
      of i (own, strong t (Some m)) at passes =
          let is : m ≡ d = eqb-true m d passes in
          taken c h n i m own t (subst NoBackend (sym is) none) at
      of i (own, weak t target) at passes = absurd (let clash : false ≡ true = passes in cc)
      of i (own, alias m property) at passes = absurd (let clash : false ≡ true = passes in cc)

      go : (o : Option ℕ) → index_from (names_kid d) 0 (slots_at c n) ≡ o → Fewer true b (take_where (names_kid d) n c)
      go None e = rw (take_where, e) h
      go (Some i) e =
          let f : Found (names_kid d) (slots_at c n) i = found-at (names_kid d) i (slots_at c n) e in
          rw (take_where, e) (of i f.entry f.at f.passes)

  left-bus : (d : ℕ) → NoBackend d → (c : Board) → Fewer true b c → Fewer true b (left_bus d c)
  left-bus d none c h = go (bus_of c d) refl
    where
      go : (o : Option ℕ) → bus_of c d ≡ o → Fewer true b (left_bus d c)
      go None e = rw (left_bus, e) h
      go (Some m) e =
          rw (left_bus, e)
          (fewer-where true b (is_named (codes "parent_bus")) parent-harmless d (take_where (names_kid d) m c) (take d none m c h))

  left-parent : (d : ℕ) (c : Board) → Fewer true b c → Fewer true b (left_parent d c)
  left-parent d c h =
      fewer-where true b (is_child_slot d) (λ s e. child-harmless d s e) ANONYMOUS_BIRTH (let_go_where (is_child_slot d) PERIPHERAL_BIRTH c)
      (fewer-where true b (is_child_slot d) (λ s e. child-harmless d s e) PERIPHERAL_BIRTH c h)

  -- the kids of a bus are devices of before
  kid-none : (c : Board) → Fewer true b c → (m k : ℕ) → is_of b (codes "bus") m ≡ true → first_of (kids_of c m) ≡ Some k → NoBackend k
  kid-none c h m k bus e = go (record_of c m) refl (record_of b m) refl
    where
      there : points is_any k (slots_at c m) ≡ true
      there = first-points k (slots_at c m) e

      go : (p : Option Record) → record_of c m ≡ p → (o : Option Record) → record_of b m ≡ o → NoBackend k
      go None q o l = absurd (let clash : false ≡ true = sym (ap (λ (x : Option Record). points is_any k (slots_in x)) q) ∙ there in cc)
      go (Some s) q None l = let clash : NearAt true None (Some s) = rw (l, q) at (h m) in absurd clash
      go (Some s) q (Some r) l =
          let less : LessRecord true r s = rw (l, q) at (h m) in
          let is : is_a r.kind (codes "bus") ≡ true = sym (kind-at b m r l (codes "bus")) ∙ bus in
          let now : points is_any k s.slots ≡ true = sym (ap (λ (x : Option Record). points is_any k (slots_in x)) q) ∙ there in
          let was : points is_any k (slots_at b m) ≡ true = ap (λ (x : Option Record). points is_any k (slots_in x)) l ∙ less.slots.strongs k is now in
          stood-none k (kid-of depth None (λ x. false) b places m k bus (points-listed k (slots_at b m) was)).0

  -- a bus was one before
  bus-before : (c : Board) → Fewer true b c → (m : ℕ) → is_of c (codes "bus") m ≡ true → is_of b (codes "bus") m ≡ true
  bus-before c h m e = go (record_of c m) refl (record_of b m) refl
    where
      go : (p : Option Record) → record_of c m ≡ p → (o : Option Record) → record_of b m ≡ o → is_of b (codes "bus") m ≡ true
      go None q o l = absurd (let clash : false ≡ true = rw q at e in cc)
      go (Some s) q None l = let clash : NearAt true None (Some s) = rw (l, q) at (h m) in absurd clash
      go (Some s) q (Some r) l =
          let less : LessRecord true r s = rw (l, q) at (h m) in
          kind-at b m r l (codes "bus") ∙ ap (λ (t : TypeId). is_a t (codes "bus")) (sym less.kind) ∙ sym (kind-at c m s q (codes "bus")) ∙ e

  apart-steps : ApartSteps (Fewer true b) (λ k. NoBackend k) (λ m. is_of b (codes "bus") m ≡ true)
  apart-steps =
      record {
        kid = λ m k c is h e. kid-none c h m k is e;
        bus = λ d m c none h e. bus-before c h m (is-bus_of c d m (first-among (buses_of c d) m e)).bus;
        lost = λ d m none is c h. fewer-where true b (is_bus_child m) (λ s e. bus-harmless m s e) d c h;
        leaves = λ d none c h. left-bus d none c h;
        parent = λ d none c h. left-parent d c h;
        pinned = λ d c h. fewer-pin true b d c h;
        unpinned = λ d none c h. fewer-unpin true b d c h;
      }

  pub detach-fewer : (d : ℕ) → stands b d ≡ true → Fewer true b (detach b d)
  detach-fewer d e =
      detached-on (Fewer true b) (λ k. NoBackend k) (λ m. is_of b (codes "bus") m ≡ true) apart-steps b d (stood-none d e)
      (fewer-unrealize true b (pin b d) d (fewer-pin true b d b (fewer-none true b)))
