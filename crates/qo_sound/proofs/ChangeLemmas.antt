-- A slot that is let go, a link that is written and a plain value: each object keeps references, or those of what the slot held come to an end.
use Rattle.std.proofs.Common.{◌≡◌, refl, ap, sym, subst, ◌∙◌, ℕ, zero, suc, ◌<◌, ◌≤◌, true, cond, ◌==◌, List, [], ◌∷◌, slice_get, Option, Some, None, option_map, arith}
use Rattle.qo_model.proofs.Common.{AllByRecursion, option_map_or, OBJECTS_BIRTH, TypeId, Val, Board, Record, Slot, plain, child, strong, weak, alias, record_of, kind_of, is_live, slots_at, slot_at, point, pointed, set, changed_at, with_changed, with_val, among, child_of, pointed_at, relinked, refs, refs_in, holds_it, drop_slot, edit, edited, emptied, let_go, with_dropped, without_hold, is_open, lasting, PassesTo}
use Rattle.std.proofs.lemmas.Bool.{eq-eqb}
use Rattle.std.proofs.lemmas.Option.{same_Some}
use Rattle.qo_model.specs.Board.{referent}
use Rattle.qo_model.proofs.EditLemmas.{StandsAt, stands-at}
use Rattle.qo_model.proofs.StepLemmas.{drop-live, drop-record, live-among, found-birth, one_of}
use Rattle.qo_model.proofs.WrittenLemmas.{IsLink, holding, seeing}
use Rattle.qo_sound.proofs.SlotLemmas.{clocks-changed, clocks-stay, IsNoClock, no_child}
use Rattle.qo_sound.proofs.RecordLemmas.{all-edited, sum-edited}
use Rattle.qo_sound.proofs.SlotLemmas.{all-changed, all-dropped, child-pointed, sum-changed}
use Rattle.qo_sound.proofs.FirmBoardLemmas.{FitsKind, Linked, WellFormed, edited-births, edited-kinds, firm-drop, firm-changed}
use Rattle.qo_sound.proofs.WorkLemmas.{HasOwn, InvariantBut, after-firm, dropped-held}

-- what passes on to objects does so where a slot was let go
left-passes : (ns : List ℕ) (s left : Slot) → emptied s ≡ Some left → PassesTo ns s → PassesTo ns left
left-passes ns (plain v) left e h = subst (PassesTo ns) (same_Some (plain v) left e) h
left-passes ns (child m) left e h = absurd (let clash : None ≡ Some left = e in cc)
left-passes ns (strong t target) left e h = subst (PassesTo ns) (same_Some (strong t None) left e) tt
left-passes ns (weak t target) left e h = subst (PassesTo ns) (same_Some (weak t None) left e) tt
left-passes ns (alias m property) left e h = subst (PassesTo ns) (same_Some (alias m property) left e) h

own-dropped : (i : ℕ) (r : Record) → lasting (with_dropped i r) ≡ lasting r → HasOwn r → HasOwn (with_dropped i r)
own-dropped i r same h = subst (λ (ns : List ℕ). AllByRecursion (λ (s : List ℕ × Slot). PassesTo ns s.1) (without_hold i r.slots)) (sym same)
    (all-dropped (PassesTo (lasting r)) (left-passes (lasting r)) i r.slots h)

-- a slot let go that takes no lasting child
pub near-drop : (b : Board) (n i : ℕ) (s : Slot) → slot_at b n i ≡ Some s → ((r : Record) → record_of b n ≡ Some r → lasting (with_dropped i r) ≡ lasting r)
    → InvariantBut None b → InvariantBut (referent s) (drop_slot b n i)
unfolding drop_slot
near-drop b n i s e lasts h =
    record {
      firm = firm-drop b n i h.firm;
      aliases = all-edited HasOwn HasOwn n (with_dropped i) b.records h.firm.rising (λ r p k. k) (λ r q k. own-dropped i r (lasts r q) k) h.aliases;
      used = λ m there none. dropped-held b h.firm.rising n i s e m (had m (sym (drop-live b n i m) ∙ there)) none;
    }
  where
    had : (m : ℕ) → is_live b m ≡ true → 0 < refs b m
    had m there = go (refs b m) refl
      where
        go : (k : ℕ) → refs b m ≡ k → 0 < refs b m
        go zero p = absurd (let clash : None ≡ Some m = h.used m there p in cc)
        go (suc k) p = omega (arith, p)

-- the child slots of the open objects are not lasting
pub open-last : (b : Board) (n i : ℕ) → is_open n ≡ true → (r : Record) → record_of b n ≡ Some r → lasting (with_dropped i r) ≡ lasting r
open-last b n i wide r e =
    let here : is_open r.birth ≡ true = ap is_open (found-birth n b.records r e) ∙ wide in
    rw here refl

-- a link takes no child, and a slot of another name not the clock
pub other-lasts : (b : Board) (n i : ℕ) → ((r : Record) (s : List ℕ × Slot) → record_of b n ≡ Some r → slice_get r.slots i ≡ Some s → IsNoClock s) → (s : Slot)
    → slot_at b n i ≡ Some s → (r : Record) → record_of b n ≡ Some r → lasting (with_dropped i r) ≡ lasting r
other-lasts b n i other s e r q =
    let here : StandsAt b n i s = stands-at b n i s e in
    let is : here.owner ≡ r = same_Some here.owner r (sym here.found ∙ q) in
    let place : slice_get r.slots i ≡ Some here.entry = subst (λ (x : Record). slice_get x.slots i ≡ Some here.entry) is here.at in
    ap (λ (ns : List ℕ). cond (is_open r.birth) [] ns) (clocks-stay i r.slots here.entry place (other r here.entry q place))

link-lasts : (b : Board) (n i : ℕ) (s : Slot) → slot_at b n i ≡ Some s → child_of s ≡ None → (r : Record) → record_of b n ≡ Some r
    → lasting (with_dropped i r) ≡ lasting r
link-lasts b n i s e none r q =
    let here : StandsAt b n i s = stands-at b n i s e in
    let is : here.owner ≡ r = same_Some here.owner r (sym here.found ∙ q) in
    let place : slice_get r.slots i ≡ Some here.entry = subst (λ (x : Record). slice_get x.slots i ≡ Some here.entry) is here.at in
    ap (λ (ns : List ℕ). cond (is_open r.birth) [] ns) (clocks-stay i r.slots here.entry place (no_child (ap child_of here.is ∙ none)))

pub near-let_go : (b : Board) (n i : ℕ) → ((s : Slot) → slot_at b n i ≡ Some s → (r : Record) → record_of b n ≡ Some r → lasting (with_dropped i r) ≡ lasting r)
    → InvariantBut None b → InvariantBut None (let_go b n i)
unfolding let_go
near-let_go b n i lasts h = go (slot_at b n i) refl
  where
    go : (o : Option Slot) → slot_at b n i ≡ o → InvariantBut None (let_go b n i)
    go None p = rw (let_go, p) h
    go (Some s) p = rw (let_go, p) (after-firm (drop_slot b n i) (referent s) (near-drop b n i s p (lasts s p) h))

-- a slot of `/objects` is let go, and a link of any object
pub near-deleted : (b : Board) (i : ℕ) → InvariantBut None b → InvariantBut None (let_go b OBJECTS_BIRTH i)
near-deleted b i h = near-let_go b OBJECTS_BIRTH i (λ s e. open-last b OBJECTS_BIRTH i refl) h

pub near-unlinked : (b : Board) (n i : ℕ) (t : TypeId) (target : Option ℕ) → slot_at b n i ≡ Some (strong t target) → InvariantBut None b
    → InvariantBut None (let_go b n i)
near-unlinked b n i t target e h = near-let_go b n i (λ s q. link-lasts b n i s q (ap child_of (same_Some s (strong t target) (sym q ∙ e)))) h

-- a slot is changed that names the same child, passes on to the same, and holds what it held or held nothing
pub record IsGentle (g : Slot → Slot) : Type 0 where
  pub children : (s : Slot) → child_of (g s) ≡ child_of s
  pub passes : (ns : List ℕ) (s : Slot) → PassesTo ns s → PassesTo ns (g s)

own-changed : (g : Slot → Slot) → IsGentle g → (i : ℕ) (r : Record) → HasOwn r → HasOwn (with_changed g i r)
own-changed g gentle i r h = subst (λ (ns : List ℕ). AllByRecursion (λ (s : List ℕ × Slot). PassesTo ns s.1) (changed_at g i r.slots)) (sym same)
    (all-changed (PassesTo (lasting r)) g i r.slots (λ s e k. gentle.passes (lasting r) s.1 k) h)
  where
    same : lasting (with_changed g i r) ≡ lasting r
    same = ap (λ (ns : List ℕ). cond (is_open r.birth) [] ns) (clocks-changed g gentle.children i r.slots)

-- no object loses a reference
changed-refs : (g : Slot → Slot) (b : Board) → WellFormed b → (n i : ℕ) (s : Slot) → slot_at b n i ≡ Some s → (k : ℕ) → one_of k ([], s) ≤ one_of k ([], g s)
    → refs b k ≤ refs (edit n (with_changed g i) b) k
changed-refs g b h n i s e k more =
    let here : StandsAt b n i s = stands-at b n i s e in
    let rises : one_of k here.entry ≤ one_of k (here.entry.0, g here.entry.1) = rw here.is more in
    omega (
      arith,
      rises,
      sum-changed (one_of k) g i here.owner.slots here.entry here.at,
      sum-edited (refs_in k) n (with_changed g i) b.records h.rising here.owner here.found,
    )

pub near-changed : (g : Slot → Slot) → IsGentle g → (o : Option ℕ) (b : Board) (n i : ℕ) (s : Slot) → slot_at b n i ≡ Some s
    → (Linked (kind_of b) s → Linked (kind_of b) (g s)) → ((k : ℕ) → one_of k ([], s) ≤ one_of k ([], g s)) → InvariantBut o b
    → InvariantBut o (edit n (with_changed g i) b)
near-changed g gentle o b n i s e fits more h =
    record {
      firm = firm-changed g gentle.children b n i
          (λ x q. subst (λ (y : Slot). Linked (kind_of b) y → Linked (kind_of b) (g y)) (same_Some s x (sym e ∙ q)) fits) h.firm;
      aliases = all-edited HasOwn HasOwn n (with_changed g i) b.records h.firm.rising (λ r p k. k) (λ r q k. own-changed g gentle i r k) h.aliases;
      used = λ m there none. h.used m (same-live m ∙ there) (omega (arith, none, changed-refs g b h.firm n i s e m (more m)));
    }
  where
    same-live : (m : ℕ) → is_live b m ≡ is_live (edit n (with_changed g i) b) m
    same-live m = live-among b m ∙ ap (λ (ns : List ℕ). among ns m) (sym (edited-births n (with_changed g i) (λ r. refl) (λ r. refl) b.records))
        ∙ sym (live-among (edit n (with_changed g i) b) m)

gentle-pointed : (m : ℕ) → IsGentle (pointed m)
gentle-pointed m = record { children = child-pointed m; passes = passes }
  where
    passes : (ns : List ℕ) (s : Slot) → PassesTo ns s → PassesTo ns (pointed m s)
    passes ns (plain v) h = h
    passes ns (child k) h = h
    passes ns (strong t target) h = h
    passes ns (weak t target) h = h
    passes ns (alias k name) h = h

pub gentle-val : (v : Val) → IsGentle (with_val v)
gentle-val v = record { children = children; passes = passes }
  where
    children : (s : Slot) → child_of (with_val v s) ≡ child_of s
    children (plain w) = refl
    children (child k) = refl
    children (strong t target) = refl
    children (weak t target) = refl
    children (alias k name) = refl

    passes : (ns : List ℕ) (s : Slot) → PassesTo ns s → PassesTo ns (with_val v s)
    passes ns (plain w) h = h
    passes ns (child k) h = h
    passes ns (strong t target) h = h
    passes ns (weak t target) h = h
    passes ns (alias k name) h = h

-- a plain value
pub near-set : (b : Board) (n i : ℕ) (v old : Val) → slot_at b n i ≡ Some (plain old) → InvariantBut None b → InvariantBut None (set n i v b)
unfolding set
near-set b n i v old e h = near-changed (with_val v) (gentle-val v) None b n i (plain old) e (λ k. tt) (λ k. omega arith) h

-- a link that was let go stands empty
pub emptied-at : (b : Board) (n i : ℕ) (s left : Slot) → slot_at b n i ≡ Some s → emptied s ≡ Some left → slot_at (drop_slot b n i) n i ≡ Some left
emptied-at b n i s left e leaves =
    let here : StandsAt b n i s = stands-at b n i s e in
    let own : (here.owner.birth == n) ≡ true = eq-eqb here.owner.birth n (found-birth n b.records here.owner here.found) in
    let slots : slots_at (drop_slot b n i) n ≡ without_hold i here.owner.slots = ap (λ (o : Option Record). option_map_or (λ (r : Record). r.slots) o [])
    (drop-record b n i n ∙ ap (option_map (edited n (with_dropped i))) here.found) ∙ rw (edited, own) refl in
    ap (λ (x : List (List ℕ × Slot)). option_map (λ (y : List ℕ × Slot). y.1) (slice_get x i)) slots
    ∙ at_place i here.owner.slots here.entry here.at (ap emptied here.is ∙ leaves)
  where
    at_place : (j : ℕ) (slots : List (List ℕ × Slot)) (x : List ℕ × Slot) → slice_get slots j ≡ Some x → emptied x.1 ≡ Some left
        → option_map (λ (y : List ℕ × Slot). y.1) (slice_get (without_hold j slots) j) ≡ Some left
    at_place j [] x q k = cc
    at_place zero (y ∷ slots) x q k =
        let is : emptied y.1 ≡ Some left = ap (λ (z : List ℕ × Slot). emptied z.1) (same_Some y x q) ∙ k in
        rw (without_hold, is) refl
    at_place (suc j) (y ∷ slots) x q k = at_place j slots x q k

-- a link that was let go points at an object of its type
pointed-drop : (b : Board) (n i : ℕ) (t : TypeId) (s left : Slot) (m : ℕ) → slot_at b n i ≡ Some s → emptied s ≡ Some left → referent left ≡ None
    → (FitsKind (kind_of b) t (Some m) → Linked (kind_of b) (pointed m left)) → FitsKind (kind_of b) t (Some m) → InvariantBut (referent s) (drop_slot b n i)
    → InvariantBut (referent s) (point n i m (drop_slot b n i))
unfolding drop_slot point
pointed-drop b n i t s left m e leaves empty links fits h =
    near-changed (pointed m) (gentle-pointed m) (referent s) (drop_slot b n i) n i left (emptied-at b n i s left e leaves) (λ old.
    subst (λ (kinds : ℕ → Option TypeId). Linked kinds (pointed m left)) (sym (edited-kinds n (with_dropped i) (λ r. refl) (λ r. refl) b)) (links fits))
    (λ k. omega (arith, none k)) h
  where
    none : (k : ℕ) → one_of k ([], left) ≡ 0
    none k = rw (holds_it, empty) refl

-- a link is written: its new target fits
pub near-relinked : (b : Board) (n i : ℕ) (t : TypeId) (s : Slot) → IsLink t s → slot_at b n i ≡ Some s → (target : Option ℕ) → FitsKind (kind_of b) t target
    → InvariantBut None b → InvariantBut None (relinked b n i target)
near-relinked b n i t s link e target fits h = rw (relinked, e) (after-firm (pointed_at target n i (drop_slot b n i)) (referent s) (go t s link target fits e))
  where
    go : (u : TypeId) (x : Slot) → IsLink u x → (to : Option ℕ) → FitsKind (kind_of b) u to → slot_at b n i ≡ Some x
        → InvariantBut (referent x) (pointed_at to n i (drop_slot b n i))
    go u x (holding old) None k q = near-drop b n i (strong u old) q (link-lasts b n i (strong u old) q refl) h
    go u x (seeing old) None k q = near-drop b n i (weak u old) q (link-lasts b n i (weak u old) q refl) h
    go u x (holding old) (Some m) k q = pointed-drop b n i u (strong u old) (strong u None) m q refl refl (λ f. f) k
        (near-drop b n i (strong u old) q (link-lasts b n i (strong u old) q refl) h)
    go u x (seeing old) (Some m) k q =
        pointed-drop b n i u (weak u old) (weak u None) m q refl refl (λ f. f) k (near-drop b n i (weak u old) q (link-lasts b n i (weak u old) q refl) h)
