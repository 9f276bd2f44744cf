-- Where objects stand in the tree: the place of a child, and what an attached bus and an attached device are.
use Rattle.std.proofs.Common.{◌≡◌, refl, ap, sym, subst, ◌∙◌, ℕ, ◌<◌, ◌≤◌, Bool, true, false, ◌==◌, ◌&&◌, eqb, List, [], ◌∷◌, find, filter_map, sum_by, Option, Some, None, is_some, option_map, codes, arith}
use Rattle.qo_model.proofs.Common.{AllByRecursion, list_any, option_map_or, bytes_eq, ANONYMOUS_BIRTH, MACHINE_BIRTH, PERIPHERAL_BIRTH, TypeId, Container, Board, Record, Slot, plain, child, strong, weak, alias, among, clock_name, attached, attached_turn, is_child, is_of, place_of, Rises, SoundGraph, is_a, types}
use Rattle.std.proofs.lemmas.Bool.{eqb-true, eq-eqb}
use Rattle.std.proofs.lemmas.List.Sums.{sum_by-cons}
use Rattle.std.proofs.lemmas.Option.{same_Some}
use Rattle.std.proofs.lemmas.Slice.Eq.{bytes_eq-Decides}
use Rattle.std.proofs.Math.Bool.{or-true}
use Rattle.qo_model.specs.Paths.{place_in}
use Rattle.qo_model.proofs.GraphLemmas.{births_at}
use Rattle.qo_model.proofs.ReleaseLemmas.{found-within}
use Rattle.qo_model.proofs.StepLemmas.{found_at}
use Rattle.qo_model.proofs.TreeLemmas.{paths_lem, place_at}
use Rattle.qo_sound.proofs.FirmBoardLemmas.{WellFormed, parents_in}
use Rattle.qo_sound.proofs.SlotLemmas.{one_child}
use Rattle.qo_sound_devices.specs.SoundPlaces.{child_entries, child_entry, has_entry, HasOwner, machines, bridges, IsAtHome, IsHosted, on_machine, on_device, listed, owns_it, PlacesBut, stands}
use Rattle.qo_sound_devices.proofs.AttachmentLemmas.{found-counted, listed-found, parent-is, place-birth, place-some}

-- the object that has a place
record Owns (rs : List Record) (x : ℕ) (u : ℕ × List ℕ) : Type 0 where
  owner : Record
  found : found_at u.0 rs ≡ Some owner
  place : place_in x owner ≡ Some u

above-found : (k n : ℕ) (rs : List Record) (r : Record) → AllByRecursion (λ m. k < m) (births_at rs) → found_at n rs ≡ Some r → k < n
above-found k n [] r h e = cc
above-found k n (y ∷ rs) r h e = go (y.birth == n) refl (above-found k n rs r h.1)
  where
    go : (t : Bool) → (y.birth == n) ≡ t → (found_at n rs ≡ Some r → k < n) → k < n
    go true p rest = subst (λ (m : ℕ). k < m) (eqb-true y.birth n p) h.0
    go false p rest = rest (rw p at e)

place-owner : (rs : List Record) → Rises (births_at rs) → (x : ℕ) (u : ℕ × List ℕ) → place_at rs x ≡ Some u → Owns rs x u
place-owner [] h x u e = cc
place-owner (r ∷ rs) h x u e = go (is_some (place_in x r)) refl (place-owner rs h.1 x u)
  where
    go : (t : Bool) → is_some (place_in x r) ≡ t → (place_at rs x ≡ Some u → Owns rs x u) → Owns (r ∷ rs) x u
    go true p rest =
        let own : place_in x r ≡ Some u = rw p at e in
        let is : r.birth ≡ u.0 = same_Some r.birth u.0 (sym (place-birth x r p) ∙ ap (option_map (λ (v : ℕ × List ℕ). v.0)) own) in
        let here : (r.birth == u.0) ≡ true = eq-eqb r.birth u.0 is in
        record { owner = r; found = rw here refl; place = own }
    go false p rest =
        let k : Owns rs x u = rest (rw p at e) in
        let apart : (r.birth == u.0) ≡ false = not_here (r.birth == u.0) refl (above-found r.birth u.0 rs k.owner h.0 k.found) in
        record { owner = k.owner; found = rw apart k.found; place = k.place }
      where
        not_here : (t : Bool) → (r.birth == u.0) ≡ t → r.birth < u.0 → (r.birth == u.0) ≡ false
        not_here false q low = q
        not_here true q low = absurd (let is : r.birth ≡ u.0 = eqb-true r.birth u.0 q in let clash : 0 < 0 = omega (arith, is, low) in omega arith)

-- an object that has a place is a child of its owner
pub place-listed : (b : Board) → WellFormed b → (x : ℕ) (u : ℕ × List ℕ) → place_of b x ≡ Some u → listed x (child_entries b u.0) ≡ true
place-listed b firm x u e =
    let k : Owns b.records x u = place-owner b.records firm.rising x u e in
    ap (λ (o : Option Record). listed x (filter_map child_entry (option_map_or (λ (r : Record). r.slots) o []))) k.found
    ∙ listed-found x k.owner.slots ∙ sym (place-some x k.owner) ∙ ap is_some k.place

-- who has an entry is listed
entry-listed : (x : ℕ) (name : List ℕ) (es : List (List ℕ × ℕ)) → has_entry (name, x) es ≡ true → listed x es ≡ true
entry-listed x name [] k = cc
entry-listed x name (z ∷ es) k = pick (z.1 == x) refl (entry-listed x name es)
  where
    pick : (t : Bool) → (z.1 == x) ≡ t → (has_entry (name, x) es ≡ true → listed x es ≡ true) → listed x (z ∷ es) ≡ true
    pick true p rest = rw p refl
    pick false p rest = rw p (rest (rw p at k))

-- and under the name that it has there
first-named : (x : ℕ) (name : List ℕ) (slots : List (List ℕ × Slot)) → sum_by (one_child x) slots ≤ 1
    → has_entry (name, x) (filter_map child_entry slots) ≡ true
    → (s : List ℕ × Slot) → find (λ (y : List ℕ × Slot). is_child x y.1) slots ≡ Some s → s.0 ≡ name
first-named x name [] few h s e = cc
first-named x name (y ∷ slots) few h s e = go (is_child x y.1) refl (first-named x name slots)
  where
    here : (z : List ℕ × Slot) → is_child x z.1 ≡ true → has_entry (name, x) (filter_map child_entry (z ∷ slots)) ≡ true
        → sum_by (one_child x) (z ∷ slots) ≤ 1 → z.0 ≡ name
    here (own, plain v) p k l = absurd (let clash : false ≡ true = p in cc)
    here (own, strong t target) p k l = absurd (let clash : false ≡ true = p in cc)
    here (own, weak t target) p k l = absurd (let clash : false ≡ true = p in cc)
    here (own, alias m property) p k l = absurd (let clash : false ≡ true = p in cc)
    here (own, child m) p k l = pick (bytes_eq own name) refl
      where
        pick : (t : Bool) → bytes_eq own name ≡ t → own ≡ name
        pick true q = (bytes_eq-Decides own name).0 q
        pick false q =
            let after : has_entry (name, x) (filter_map child_entry slots) ≡ true = rw (p, q) at k in
            let some : 1 ≤ sum_by (one_child x) slots =
            found-counted x slots (sym (listed-found x slots) ∙ entry-listed x name (filter_map child_entry slots) after) in
            let one : one_child x (own, child m) ≡ 1 = rw p refl in
            absurd (let clash : 2 ≤ 1 = omega (arith, one, some, l, sum_by-cons (one_child x) (own, child m) slots) in omega (arith, clash))

    after : (z : List ℕ × Slot) → is_child x z.1 ≡ false → has_entry (name, x) (filter_map child_entry (z ∷ slots)) ≡ true
        → has_entry (name, x) (filter_map child_entry slots) ≡ true
    after (own, plain v) p k = k
    after (own, strong t target) p k = k
    after (own, weak t target) p k = k
    after (own, alias m property) p k = k
    after (own, child m) p k = rw p at k

    go : (t : Bool) → is_child x y.1 ≡ t
        → (sum_by (one_child x) slots ≤ 1 → has_entry (name, x) (filter_map child_entry slots) ≡ true → (z : List ℕ × Slot)
        → find (λ (w : List ℕ × Slot). is_child x w.1) slots ≡ Some z → z.0 ≡ name)
        → s.0 ≡ name
    go true p rest = subst (λ (z : List ℕ × Slot). z.0 ≡ name) (same_Some y s (rw p at e)) (here y p h few)
    go false p rest = rest (omega (arith, few, sum_by-cons (one_child x) y slots)) (after y p h) s (rw p at e)

pub place-named : (b : Board) → WellFormed b → (p x : ℕ) (name : List ℕ) → has_entry (name, x) (child_entries b p) ≡ true → place_of b x ≡ Some (p, name)
place-named b firm p x name e = go (place_of b x) refl
  where
    parent : option_map (λ (u : ℕ × List ℕ). u.0) (place_of b x) ≡ Some p
    parent = parent-is b firm p x (entry-listed x name (child_entries b p) e)

    named : (u : ℕ × List ℕ) → place_of b x ≡ Some u → u.0 ≡ p → u.1 ≡ name
    named u q is = from (find (λ (s : List ℕ × Slot). is_child x s.1) k.owner.slots) refl k.place
      where
        k : Owns b.records x u
        k = place-owner b.records firm.rising x u q

        there : has_entry (name, x) (filter_map child_entry k.owner.slots) ≡ true
        there =
            sym (ap (λ (o : Option Record). has_entry (name, x) (filter_map child_entry (option_map_or (λ (r : Record). r.slots) o []))) k.found)
            ∙ ap (λ (m : ℕ). has_entry (name, x) (child_entries b m)) is
            ∙ e

        few : sum_by (one_child x) k.owner.slots ≤ 1
        few = omega (arith, found-within (parents_in x) u.0 b.records k.owner k.found, firm.one_parent x)

        from : (o : Option (List ℕ × Slot)) → find (λ (s : List ℕ × Slot). is_child x s.1) k.owner.slots ≡ o
            → option_map (λ (s : List ℕ × Slot). (k.owner.birth, s.0)) o ≡ Some u → u.1 ≡ name
        from None r l = absurd (let clash : None ≡ Some u = l in cc)
        from (Some s) r l = sym (ap (λ (v : ℕ × List ℕ). v.1) (same_Some (k.owner.birth, s.0) u l)) ∙ first-named x name k.owner.slots few there s r

    go : (o : Option (ℕ × List ℕ)) → place_of b x ≡ o → place_of b x ≡ Some (p, name)
    go None q = absurd (let clash : None ≡ Some p = sym (ap (option_map (λ (u : ℕ × List ℕ). u.0)) q) ∙ parent in cc)
    go (Some u) q =
        let is : u.0 ≡ p = same_Some u.0 p (sym (ap (option_map (λ (v : ℕ × List ℕ). v.0)) q) ∙ parent) in
        q ∙ ap Some (pair u is (named u q is))
      where
        pair : (v : ℕ × List ℕ) → v.0 ≡ p → v.1 ≡ name → v ≡ (p, name)
        pair (m, own) r l = cc

-- an entry of a list, with what holds of it
pub record Entry (P : List ℕ × ℕ → Type 0) (q : ℕ) (es : List (List ℕ × ℕ)) : Type 0 where
  pub name : List ℕ
  pub holds : P (name, q)
  pub there : has_entry (name, q) es ≡ true

pub entry-of : (P : List ℕ × ℕ → Type 0) (q : ℕ) (es : List (List ℕ × ℕ)) → AllByRecursion P es → listed q es ≡ true → Entry P q es
entry-of P q [] h e = cc
entry-of P q (x ∷ es) h e = go (x.1 == q) refl (entry-of P q es h.1)
  where
    go : (t : Bool) → (x.1 == q) ≡ t → (listed q es ≡ true → Entry P q es) → Entry P q (x ∷ es)
    go true p rest =
        let same_name : bytes_eq x.0 x.0 ≡ true = (bytes_eq-Decides x.0 x.0).1 refl in
        record { name = x.0; holds = subst (λ (m : ℕ). P (x.0, m)) (eqb-true x.1 q p) h.0; there = rw (p, same_name) refl }
    go false p rest =
        let k : Entry P q es = rest (rw p at e) in
        record { name = k.name; holds = k.holds; there = rw k.there (or-true (x.1 == q && bytes_eq x.0 k.name)) }

entry-owned : (name : List ℕ) (q : ℕ) → bytes_eq name clock_name ≡ false → (es : List (List ℕ × ℕ)) → has_entry (name, q) es ≡ true
    → list_any (owns_it q) es ≡ true
entry-owned name q apart [] e = cc
entry-owned name q apart (x ∷ es) e = go (x.1 == q) refl (bytes_eq x.0 name) refl (entry-owned name q apart es)
  where
    other : bytes_eq x.0 name ≡ true → bytes_eq x.0 clock_name ≡ false
    other k = subst (λ (own : List ℕ). bytes_eq own clock_name ≡ false) (sym ((bytes_eq-Decides x.0 name).0 k)) apart

    go : (t : Bool) → (x.1 == q) ≡ t → (u : Bool) → bytes_eq x.0 name ≡ u → (has_entry (name, q) es ≡ true → list_any (owns_it q) es ≡ true)
        → list_any (owns_it q) (x ∷ es) ≡ true
    go true p true k rest = rw (p, other k) refl
    go true p false k rest = rw (rest (rw (p, k) at e)) (or-true (owns_it q x))
    go false p k l rest = rw (rest (rw p at e)) (or-true (owns_it q x))

-- the machine is no device
pub machine-no_device : (depth : ℕ → ℕ) (left : Option ℕ) (out : ℕ → Bool) (b : Board) → PlacesBut depth left out b
    → is_of b (codes "device") MACHINE_BIRTH ≡ false
machine-no_device depth left out b h = go (is_of b (codes "device") MACHINE_BIRTH) refl
  where
    go : (t : Bool) → is_of b (codes "device") MACHINE_BIRTH ≡ t → is_of b (codes "device") MACHINE_BIRTH ≡ false
    go false p = p
    go true p = absurd (let clash : false ≡ true = (entry-of (IsAtHome b 1) MACHINE_BIRTH (child_entries b 1) (h.children 1) h.machine).holds.device p in cc)

-- what is attached
module _ (b : Board) (sound : SoundGraph b) (firm : WellFormed b) (depth : ℕ → ℕ) (left : Option ℕ) (out : ℕ → Bool) (h : PlacesBut depth left out b) where
  root-is : (name : List ℕ) → is_of b name 1 ≡ is_a Container name
  root-is name = ap (λ (o : Option TypeId). option_map_or (λ (t : TypeId). is_a t name) o false) h.rooted.root

  -- an attached object other than the root is a child of an attached one
  attached-above : {A : Type 0} (x : ℕ) → attached b x ≡ true → (x ≡ 1 → A) → ((p : ℕ) → attached b p ≡ true → listed x (child_entries b p) ≡ true → A) → A
  attached-above {A} x e root above = go (x == 1) refl (place_of b x) refl
    where
      turn : attached_turn b (attached b) x ≡ true
      turn = sym (paths_lem.attached_by_parent b sound x) ∙ e

      go : (t : Bool) → (x == 1) ≡ t → (o : Option (ℕ × List ℕ)) → place_of b x ≡ o → A
      go true p o q = root (eqb-true x 1 p)
      go false p None q = absurd (let clash : false ≡ true = rw (attached_turn, p, q) at turn in cc)
      go false p (Some u) q = above u.0 (rw (attached_turn, p, q) at turn) (place-listed b firm x u q)

  pub attached-stands : (d : ℕ) → is_of b (codes "device") d ≡ true → attached b d ≡ true → stands b d ≡ true
  unfolding types
  attached-stands d is e = attached-above d e
      (λ root. absurd (let clash : false ≡ true = sym (root-is (codes "device")) ∙ ap (is_of b (codes "device")) (sym root) ∙ is in cc))
      (λ p above l. at_shelf p l ((entry-of (IsAtHome b p) d (child_entries b p) (h.children p) l).holds.device is))
    where
      at_shelf : (p : ℕ) → listed d (child_entries b p) ≡ true → among (PERIPHERAL_BIRTH ∷ ANONYMOUS_BIRTH ∷ []) p ≡ true → stands b d ≡ true
      at_shelf p l k = go (eqb p PERIPHERAL_BIRTH) refl (eqb p ANONYMOUS_BIRTH) refl
        where
          go : (t : Bool) → eqb p PERIPHERAL_BIRTH ≡ t → (u : Bool) → eqb p ANONYMOUS_BIRTH ≡ u → stands b d ≡ true
          go true q u r = rw (sym (ap (λ (m : ℕ). listed d (child_entries b m)) (eqb-true p PERIPHERAL_BIRTH q)) ∙ l) refl
          go false q true r =
              rw (sym (ap (λ (m : ℕ). listed d (child_entries b m)) (eqb-true p ANONYMOUS_BIRTH r)) ∙ l)
              (or-true (listed d (child_entries b PERIPHERAL_BIRTH)))
          go false q false r = absurd (let clash : false ≡ true = rw (q, r) at k in cc)

  pub attached-owner : (q : ℕ) → is_of b (codes "bus") q ≡ true → attached b q ≡ true → HasOwner b q
  unfolding types
  attached-owner q is e = attached-above q e
      (λ root. absurd (let clash : false ≡ true = sym (root-is (codes "bus")) ∙ ap (is_of b (codes "bus")) (sym root) ∙ is in cc))
      (λ p above l. at_owner p above (entry-of (IsAtHome b p) q (child_entries b p) (h.children p) l))
    where
      at_owner : (p : ℕ) → attached b p ≡ true → Entry (IsAtHome b p) q (child_entries b p) → HasOwner b q
      at_owner p above k = go (k.holds.bus is)
        where
          go : IsHosted b p (k.name, q) → HasOwner b q
          go (on_machine own) = machines own
          go (on_device device apart) = bridges p (attached-stands p device above) (entry-owned k.name q apart (child_entries b p) k.there)
