-- The steps by which a device is added, while it is held from outside, come to the board with it.
use Rattle.std.proofs.Common.{◌≡◌, refl, ap, sym, subst, ◌∙◌, ℕ, zero, suc, ◌+◌, ◌<◌, ◌≤◌, true, false, ◌==◌, List, [], ◌∷◌, ◌++◌, length, map, Option, Some, None, is_some, option_map, arith}
use Rattle.qo_model.proofs.Common.{AllByRecursion, option_map_or, type_name, TypeId, Board, Record, Slot, plain, child, strong, weak, alias, record_of, kind_of, is_live, fresh, ending, init_notes, Resources, Wanted, clocked, counted, cut_attempt, drafted, passed, plug_attempt, properties_made, source_for, started, stood, with_new, with_plugged, refs, edit, finalize, put_in_order, unpin, is_a, slots_of}
use Rattle.qo_model.specs.declared.properties.Property.{Property}
use Rattle.qo_model.specs.declared.properties.PropertyRole.TheVariants as row
use Rattle.qo_model.proofs.AttemptLemmas.{HasFurtherObjects, LowRecord, LowSlot}
use Rattle.qo_model.proofs.DraftEndsLemmas.{IsDraft, draft-begun, draft-edited, draft-free, draft-rows, drafted-cut, drafted-ends, kinds_in, unjoined-cut, unjoined-ends}
use Rattle.qo_model.proofs.GraphLemmas.{births_at}
use Rattle.qo_model.proofs.StepLemmas.{is_some-map}
use Rattle.qo_model.proofs.LateAttemptLemmas.{attempt-free, attempt-passed}
use Rattle.qo_sound.proofs.FirmBoardLemmas.{AllLinked, FitsKind, Linked, WellFormed}
use Rattle.qo_sound.proofs.WorkLemmas.{InvariantBut}
use Rattle.qo_sound.proofs.ViewLemmas.{PinsRootAlone}
use Rattle.qo_sound.proofs.DraftLemmas.{Drafts, drafted-drafts, found-low, pinned_once, with_pins}
use Rattle.qo_sound.proofs.KindsLemmas.{plug-kinds}
use Rattle.qo_sound.proofs.PinLemmas.{let-free, let-go, passed-blind, passed-pins, steps-blind}
use Rattle.qo_sound.proofs.PlugLemmas.{IsPlace, plugged-rest, shut-above}

-- an object that is there has references
some-refs : (c : Board) (n : ℕ) → InvariantBut None c → is_live c n ≡ true → (refs c n == 0) ≡ false
some-refs c n h there = go (refs c n) refl
  where
    go : (k : ℕ) → refs c n ≡ k → (refs c n == 0) ≡ false
    go zero e = absurd (let clash : None ≡ Some n = h.used n there e in cc)
    go (suc k) e = grind (arith, e)

-- and has a type
live-kind : (c : Board) (n : ℕ) (kinds : ℕ → Option TypeId) (t : TypeId) → kind_of c ≡ kinds → kinds n ≡ Some t → is_live c n ≡ true
live-kind c n kinds t same e = sym (is_some-map (λ (r : Record). r.kind) (record_of c n)) ∙ ap (λ (k : ℕ → Option TypeId). is_some (k n)) same ∙ ap is_some e

device-kind : (b : Board) (n : ℕ) (t : TypeId) (c : Board) → Drafts b n t [] c → kind_of c n ≡ Some t
device-kind b n t c d = ap (option_map (λ (r : Record). r.kind)) d.found ∙ ap Some d.kind

-- the device is there
plug-live : (b : Board) (t : TypeId) (a : Wanted) (resources : Resources) → PinsRootAlone b → is_live (with_plugged b t a resources) (b.born + 1) ≡ true
plug-live b t a resources h = live-kind (with_plugged b t a resources) (b.born + 1) (kind_of (drafted b t)) t (plug-kinds b t a resources)
    (device-kind b (b.born + 1) t (pinned_once (b.born + 1) (drafted b t)) (drafted-drafts b t (shut-above b.born h.used.firm.begun) h.used))

-- the device is made, held, and let go where it stands
pub plug-steps : (b : Board) (t : TypeId) (a : Wanted) (resources : Resources) (q : List ℕ) → q ≡ put_in_order (b.born + 1) (1 ∷ []) → PinsRootAlone b
    → IsPlace b t a resources
    → unpin (started (b.born + 1) t (counted a.id (clocked (source_for b resources.bus) (b.born + 1)
    (stood b (b.born + 1) a resources (properties_made (b.born + 1) t (slots_of t) (with_pins q (with_new (fresh (b.born + 1) t) b))))))) (b.born + 1)
    ≡ with_plugged b t a resources
plug-steps b t a resources q is h place =
    let rest : PinsRootAlone (with_plugged b t a resources) = plugged-rest b t a resources h (shut-above b.born h.used.firm.begun) place in
    ap (λ (x : Board). unpin x (b.born + 1)) (steps-blind q b t a resources)
    ∙ let-go (with_plugged b t a resources) (b.born + 1) q rest.pinned is
    (some-refs (with_plugged b t a resources) (b.born + 1) rest.used (plug-live b t a resources h))

-- what slots name is at most the births so far

low-kind : (b : Board) → WellFormed b → (m : ℕ) → is_some (kind_of b m) ≡ true → m < b.born + 1
low-kind b f m e = go (record_of b m) refl
  where
    go : (o : Option Record) → record_of b m ≡ o → m < b.born + 1
    go None p = absurd (let clash : false ≡ true = sym (ap (λ (o : Option Record). is_some (option_map (λ (r : Record). r.kind) o)) p) ∙ e in cc)
    go (Some r) p = let low : m ≤ b.born = found-low b.born m b.records r f.within p in omega (arith, low)

low-fits : (b : Board) → WellFormed b → (t : TypeId) (m : ℕ) → FitsKind (kind_of b) t (Some m) → m < b.born + 1
low-fits b f t m h = go (kind_of b m) refl
  where
    go : (o : Option TypeId) → kind_of b m ≡ o → m < b.born + 1
    go None p = absurd (let clash : false ≡ true = sym (ap (λ (o : Option TypeId). option_map_or (λ (k : TypeId). is_a k (type_name t)) o false) p) ∙ h in cc)
    go (Some k) p = low-kind b f m (ap is_some p)

low-slot : (b : Board) → WellFormed b → (s : Slot) → Linked (kind_of b) s → LowSlot (b.born + 1) s
low-slot b f (plain v) h = tt
low-slot b f (child m) h = low-kind b f m h
low-slot b f (strong t None) h = tt
low-slot b f (strong t (Some m)) h = low-fits b f t m h
low-slot b f (weak t None) h = tt
low-slot b f (weak t (Some m)) h = low-fits b f t m h
low-slot b f (alias m name) h = tt

low-slots : (b : Board) → WellFormed b → (ss : List (List ℕ × Slot)) → AllByRecursion (λ (s : List ℕ × Slot). Linked (kind_of b) s.1) ss
    → AllByRecursion (λ (s : List ℕ × Slot). LowSlot (b.born + 1) s.1) ss
low-slots b f [] h = tt
low-slots b f (s ∷ ss) h = (low-slot b f s.1 h.0, low-slots b f ss h.1)

low-records : (b : Board) → WellFormed b → (rs : List Record) → AllByRecursion (λ m. m ≤ b.born) (births_at rs) → AllLinked (kind_of b) rs
    → AllByRecursion (LowRecord (b.born + 1)) rs
low-records b f [] w h = tt
low-records b f (r ∷ rs) w h = let low : r.birth ≤ b.born = w.0 in
    (record { birth = omega (arith, low); slots = low-slots b f r.slots h.0 }, low-records b f rs w.1 h.1)

low-pins : (b : Board) → PinsRootAlone b → AllByRecursion (λ p. p < b.born + 1) b.pins
low-pins b h = subst (AllByRecursion (λ p. p < b.born + 1)) (sym h.pinned) (let begun : 8 ≤ b.born = h.used.firm.begun in omega (arith, begun), tt)

pub draft-of : (b : Board) (t : TypeId) (ps : List Property) → PinsRootAlone b
    → IsDraft b (b.born + 1) t (kinds_in ps) (properties_made (b.born + 1) t ps (with_new (fresh (b.born + 1) t) b))
draft-of b t ps h = draft-rows b (b.born + 1) t (low-records b h.used.firm b.records h.used.firm.within h.used.firm.linked) ps []
    (with_new (fresh (b.born + 1) t) b) (draft-begun b t)

-- a draft with each slot changed, so that stars stay stars
pub draft-changed : (b : Board) (t : TypeId) (ks : List TypeId) (c : Board) (g : List ℕ × Slot → List ℕ × Slot) → PinsRootAlone b
    → ((lo : ℕ) (ss : List (List ℕ × Slot)) (ls : List Record) → HasFurtherObjects (b.born + 1) lo ss ls → HasFurtherObjects (b.born + 1) lo (map g ss) ls)
    → IsDraft b (b.born + 1) t ks c → IsDraft b (b.born + 1) t ks (edit (b.born + 1) (λ (r : Record). record r { slots = map g r.slots }) c)
draft-changed b t ks c g h =
    draft-edited b (b.born + 1) t (low-records b h.used.firm b.records h.used.firm.within h.used.firm.linked) g ks c

-- the steps of an attempt: a draft that is held is let go
given-up : (b : Board) (t : TypeId) (ks : List TypeId) (c : Board) (q : List ℕ) → q ≡ put_in_order (b.born + 1) (1 ∷ []) → PinsRootAlone b
    → IsDraft b (b.born + 1) t ks c → unpin (with_pins q c) (b.born + 1) ≡ finalize c (b.born + 1)
given-up b t ks c q is h draft =
    let low : AllByRecursion (LowRecord (b.born + 1)) b.records = low-records b h.used.firm b.records h.used.firm.within h.used.firm.linked in
    let-free c (b.born + 1) q (ap (λ (x : Board). x.pins) draft.shape ∙ h.pinned) is
    (ap (λ (k : ℕ). k == 0) (draft-free b t ks c low (low-pins b h) draft))

-- with all its properties, where the attempt is refused before it is realized
pub attempt-steps : (b : Board) (t : TypeId) (m stage : ℕ) (c : Board) (q : List ℕ) → q ≡ put_in_order (b.born + 1) (1 ∷ []) → (stage == 8) ≡ false
    → PinsRootAlone b
    → IsDraft b (b.born + 1) t (kinds_in (slots_of t)) c → unpin (with_pins q c) (b.born + 1) ≡ plug_attempt b t m stage
attempt-steps b t m stage c q is early h draft = given-up b t (kinds_in (slots_of t)) c q is h draft
    ∙ drafted-ends b t m stage c (low-records b h.used.firm b.records h.used.firm.within h.used.firm.linked) (low-pins b h) early draft

-- with a first part of them, where it is cut for want of memory
pub cut-steps : (b : Board) (t : TypeId) (ps qs : List Property) (c : Board) (q : List ℕ) → q ≡ put_in_order (b.born + 1) (1 ∷ []) → slots_of t ≡ ps ++ qs
    → PinsRootAlone b → IsDraft b (b.born + 1) t (kinds_in ps) c → unpin (with_pins q c) (b.born + 1) ≡ cut_attempt b t (suc (length (kinds_in ps))) true
cut-steps b t ps qs c q is split h draft = given-up b t (kinds_in ps) c q is h draft
    ∙ drafted-cut b t ps qs c split (low-records b h.used.firm b.records h.used.firm.within h.used.firm.linked) (low-pins b h) draft

-- with all, where it is refused because the notices are full: it acts where it stands nowhere, and is let go
pub passed-steps : (b : Board) (t : TypeId) (m : ℕ) (c : Board) (q : List ℕ) → q ≡ put_in_order (b.born + 1) (1 ∷ []) → PinsRootAlone b
    → IsDraft b (b.born + 1) t (kinds_in (slots_of t)) c → unpin (passed b m (b.born + 1) t (with_pins q c)) (b.born + 1) ≡ plug_attempt b t m 8
passed-steps b t m c q is h draft =
    let low : AllByRecursion (LowRecord (b.born + 1)) b.records = low-records b h.used.firm b.records h.used.firm.within h.used.firm.linked in
    ap (λ (x : Board). unpin x (b.born + 1)) (passed-blind q b m (b.born + 1) t c)
    ∙ let-free (passed b m (b.born + 1) t c) (b.born + 1) q
    (passed-pins q b m (b.born + 1) t c ∙ ap (λ (x : Board). x.pins) draft.shape ∙ h.pinned) is
    (ap (λ (k : ℕ). k == 0) (attempt-free b t m c low (low-pins b h) draft))
    ∙ attempt-passed b t m c low (low-pins b h) draft

-- and where it is cut after a further object that was made, was not joined, and has ended
pub unjoined-ended : (b : Board) (t : TypeId) (ps : List Property) (p : Property) (k : TypeId) (qs : List Property) (c : Board) (q : List ℕ)
    → slots_of t ≡ ps ++ p ∷ qs → p.role ≡ row.Child k → q ≡ put_in_order (b.born + 1) (1 ∷ []) → PinsRootAlone b → IsDraft b (b.born + 1) t (kinds_in ps) c
    → unpin (with_pins q (record c { born = c.born + 1; notes = c.notes ++ init_notes (c.born + 1) k ++ ending (c.born + 1) k })) (b.born + 1)
    ≡ cut_attempt b t (suc (suc (length (kinds_in ps)))) false
unjoined-ended b t ps p k qs c q split is_kid is h draft =
    let low : AllByRecursion (LowRecord (b.born + 1)) b.records = low-records b h.used.firm b.records h.used.firm.within h.used.firm.linked in
    let-free (record c { born = c.born + 1; notes = c.notes ++ init_notes (c.born + 1) k ++ ending (c.born + 1) k }) (b.born + 1) q
    (ap (λ (x : Board). x.pins) draft.shape ∙ h.pinned) is (ap (λ (x : ℕ). x == 0) (draft-free b t (kinds_in ps) c low (low-pins b h) draft))
    ∙ unjoined-ends b t (kinds_in ps) k c low (low-pins b h) draft
    ∙ unjoined-cut b t ps p k qs split is_kid
