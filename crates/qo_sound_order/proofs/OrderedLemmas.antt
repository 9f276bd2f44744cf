-- One object in order, and boards of such: what the steps keep that change one object.
use Rattle.std.proofs.Common.{◌≡◌, refl, ap, sym, subst, ◌∙◌, ℕ, true, false, List, [], ◌∷◌, filter_map, map, codes, Option, Some, None, option_map}
use Rattle.qo_model.proofs.Common.{⊤, AllByRecursion, option_map_or, Registers, OBJECTS_BIRTH, PERIPHERAL_BIRTH, TypeId, Board, Record, Slot, kind_of, record_of, slots_at, changed_at, point, pointed, with_changed, with_cut, with_val, among, is_of, forgotten, forgotten_in, without_hold, is_a, unseen}
use Rattle.std.proofs.lemmas.Option.{same_Some}
use Rattle.qo_model.proofs.StepLemmas.{found-birth}
use Rattle.qo_sound_devices.specs.SoundPlaces.{child_entries, child_entry, kid_entries, kid_entry}
use Rattle.qo_sound_devices.proofs.DropLemmas.{children-fewer, kids-fewer}
use Rattle.qo_sound_devices.proofs.PlacesLemmas.{Within, all-within, within-same}
use Rattle.qo_sound_devices.proofs.UnrealizingLemmas.{IsMild, entries-changed, mild-unseen, mild-val}
use Rattle.qo_sound_shapes.proofs.BoardLemmas.{AllOf, all-edit}
use Rattle.qo_sound_order.specs.SoundOrder.{HasId}
use Rattle.qo_sound_order.proofs.EntryLemmas.{Ascends, ascends-within, child-forgotten, child-pointed, entries-mapped, kid-forgotten, within-removed}
use Rattle.qo_sound_order.proofs.ObjectLemmas.{KeepsFact}

-- the containers whose names are ids
abbrev pub named_by_ids : List ℕ
named_by_ids = OBJECTS_BIRTH ∷ PERIPHERAL_BIRTH ∷ []

-- an object is in order
pub record Ordered (r : Record) : Type 0 where
  pub children : Ascends r.birth (filter_map child_entry r.slots)
  pub kids : is_a r.kind (codes "bus") ≡ true → Ascends r.birth (filter_map kid_entry r.slots)
  pub ids : among named_by_ids r.birth ≡ true → AllByRecursion HasId (filter_map child_entry r.slots)

-- with fewer children, and as a bus with fewer kids; and with other registers
pub ordered-slots : (r : Record) (slots : List (List ℕ × Slot)) → Within (filter_map child_entry slots) (filter_map child_entry r.slots)
    → (is_a r.kind (codes "bus") ≡ true → Within (filter_map kid_entry slots) (filter_map kid_entry r.slots)) → Ordered r → Ordered (record r { slots = slots })
ordered-slots r slots children kids h =
    record {
      children = ascends-within r.birth children h.children;
      kids = λ bus. ascends-within r.birth (kids bus) (h.kids bus);
      ids = λ its. all-within HasId children (h.ids its);
    }

ordered-registers : (registers : Registers) (r : Record) → Ordered r → Ordered (record r { registers = registers })
ordered-registers registers r h = record { children = h.children; kids = h.kids; ids = h.ids }

ordered-mild : (g : Slot → Slot) → IsMild g → (i : ℕ) (r : Record) → Ordered r → Ordered (with_changed g i r)
ordered-mild g mild i r h =
    ordered-slots r (changed_at g i r.slots) (within-same (entries-changed child_entry g mild.children i r.slots))
    (λ bus. within-same (entries-changed kid_entry g mild.kids i r.slots)) h

ordered-forgotten : (n : ℕ) (r : Record) → Ordered r → Ordered (forgotten n r)
ordered-forgotten n r h =
    ordered-slots r (map (λ (s : List ℕ × Slot). (s.0, forgotten_in n s.1)) r.slots)
    (within-same (entries-mapped child_entry (λ (s : List ℕ × Slot). (s.0, forgotten_in n s.1)) (child-forgotten n) r.slots))
    (λ bus. within-same (entries-mapped kid_entry (λ (s : List ℕ × Slot). (s.0, forgotten_in n s.1)) (kid-forgotten n) r.slots)) h

-- boards of such
abbrev pub InOrder : Board → Type 0
InOrder = AllOf Ordered

-- any value may be there
pub ordered-keeps : KeepsFact (λ v. ⊤) Ordered
ordered-keeps =
    record {
      drops = λ i r h. ordered-slots r (without_hold i r.slots) (children-fewer i r.slots) (λ bus. kids-fewer i r.slots) h;
      cuts = λ i r h. ordered-slots r (with_cut i r).slots (within-removed child_entry i r.slots) (λ bus. within-removed kid_entry i r.slots) h;
      sets = λ v may i r h. ordered-mild (with_val v) (mild-val v) i r h;
      unsees = λ i r h. ordered-mild unseen mild-unseen i r h;
      forgets = ordered-forgotten;
      body = ordered-registers;
      zero = tt;
      off = tt;
    }

-- a link that is pointed, of an object that is no bus
pub order-point : (n i m : ℕ) (t : TypeId) (c : Board) → kind_of c n ≡ Some t → is_a t (codes "bus") ≡ false → InOrder c → InOrder (point n i m c)
unfolding point
order-point n i m t c kind apart h =
    all-edit Ordered n (with_changed (pointed m) i) (λ r. refl) c
    (λ r e own k.
    ordered-slots r (changed_at (pointed m) i r.slots) (within-same (entries-changed child_entry (pointed m) (child-pointed m) i r.slots))
    (λ bus.
    let is : r.kind ≡ t = same_Some r.kind t (sym (ap (option_map (λ (x : Record). x.kind)) e) ∙ kind) in
    absurd (let clash : true ≡ false = sym bus ∙ ap (λ (k : TypeId). is_a k (codes "bus")) is ∙ apart in cc)) k) h

-- the same of each birth
pub record OrderedAt (b : Board) (n : ℕ) : Type 0 where
  pub children : Ascends n (child_entries b n)
  pub kids : is_of b (codes "bus") n ≡ true → Ascends n (kid_entries b n)
  pub ids : among named_by_ids n ≡ true → AllByRecursion HasId (child_entries b n)

slots-found : (b : Board) (n : ℕ) (r : Record) → record_of b n ≡ Some r → slots_at b n ≡ r.slots
slots-found b n r e = ap (λ (o : Option Record). option_map_or (λ (x : Record). x.slots) o []) e

of-found : (b : Board) (n : ℕ) (r : Record) (name : List ℕ) → record_of b n ≡ Some r → is_of b name n ≡ is_a r.kind name
of-found b n r name e = ap (λ (o : Option Record). option_map_or (λ (t : TypeId). is_a t name) (option_map (λ (x : Record). x.kind) o) false) e

pub each-ordered : (b : Board) → InOrder b → (n : ℕ) → OrderedAt b n
each-ordered b h n = go (record_of b n) refl
  where
    go : (o : Option Record) → record_of b n ≡ o → OrderedAt b n
    go None e =
        let slots : slots_at b n ≡ [] = ap (λ (o : Option Record). option_map_or (λ (x : Record). x.slots) o []) e in
        record {
          children = rw slots (tt, tt);
          kids = λ bus. rw slots (tt, tt);
          ids = λ its. rw slots tt;
        }
    go (Some r) e =
        let own : r.birth ≡ n = found-birth n b.records r e in
        let slots : slots_at b n ≡ r.slots = slots-found b n r e in
        let k : Ordered r = h n r e in
        record {
          children = rw slots (subst (λ (m : ℕ). Ascends m (filter_map child_entry r.slots)) own k.children);
          kids = λ bus. rw slots (subst (λ (m : ℕ). Ascends m (filter_map kid_entry r.slots)) own (k.kids (sym (of-found b n r (codes "bus") e) ∙ bus)));
          ids = λ its. rw slots (k.ids (ap (among named_by_ids) own ∙ its));
        }

pub ordered-each : (b : Board) → ((n : ℕ) → OrderedAt b n) → InOrder b
ordered-each b h n r e =
    let own : n ≡ r.birth = sym (found-birth n b.records r e) in
    let slots : slots_at b n ≡ r.slots = slots-found b n r e in
    let k : OrderedAt b n = h n in
    record {
      children = subst (λ (m : ℕ). Ascends m (filter_map child_entry r.slots)) own (rw slots at k.children);
      kids = λ bus. subst (λ (m : ℕ). Ascends m (filter_map kid_entry r.slots)) own (rw slots at (k.kids (of-found b n r (codes "bus") e ∙ bus)));
      ids = λ its. rw slots at (k.ids (ap (among named_by_ids) own ∙ its));
    }
