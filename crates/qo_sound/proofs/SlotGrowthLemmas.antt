-- An object with a slot more after its others: what it keeps, and a slot that names no child.
use Rattle.std.proofs.Common.{◌≡◌, refl, ap, sym, subst, ◌∙◌, ℕ, ◌+◌, ◌≤◌, Bool, true, false, cond, eqb, List, [], ◌∷◌, ◌++◌, map, sum_by, Option, Some, None, arith}
use Rattle.qo_model.proofs.Common.{AllByRecursion, IsDistinct, cons_option, bytes_eq, Board, Record, Slot, plain, child, strong, weak, alias, record_of, kind_of, add, with_added, among, is_child, child_of, children_in, refs, edit, edited, is_clock_slot, is_open, lasting, PassesTo, Rises}
use Rattle.std.proofs.lemmas.List.{map-append}
use Rattle.std.proofs.lemmas.List.Sums.{sum_by-cons, sum_by-append}
use Rattle.std.proofs.lemmas.Option.{same_Some}
use Rattle.qo_model.proofs.StepLemmas.{found_at, one_of}
use Rattle.qo_sound.proofs.RecordLemmas.{all-append, sum-edited}
use Rattle.qo_values.proofs.ListLemmas.{all-imply}
use Rattle.qo_sound.proofs.SlotLemmas.{clocks_in, names_in, one_child}
use Rattle.qo_sound.proofs.FirmBoardLemmas.{Linked, HasNames, WellFormed, firm-edit}
use Rattle.qo_sound.proofs.WorkLemmas.{HasOwn, InvariantBut}
use Rattle.qo_sound.proofs.CutLemmas.{near-edit}

-- a name that differs from the others comes after them
pub distinct-push : (id : List ℕ) (names : List (List ℕ)) → IsDistinct bytes_eq names → AllByRecursion (λ name. bytes_eq name id ≡ false) names
    → IsDistinct bytes_eq (names ++ id ∷ [])
unfolding IsDistinct
distinct-push id [] h k = (tt, tt)
distinct-push id (name ∷ names) h k = (all-append (λ x. bytes_eq name x ≡ false) names (id ∷ []) h.0 (k.0, tt), distinct-push id names h.1 k.1)

pub names-added : (name : List ℕ) (s : Slot) (r : Record) → AllByRecursion (λ x. bytes_eq x name ≡ false) (names_in r.slots) → HasNames r
    → HasNames (with_added name s r)
names-added name s r free h =
    subst (IsDistinct bytes_eq) (sym (map-append (λ (x : List ℕ × Slot). x.0) r.slots ((name, s) ∷ []))) (distinct-push name (names_in r.slots) h free)

-- the clocks in slots stay where one more comes
cons-more : (o : Option ℕ) (ns ms : List ℕ) → ((y : ℕ) → among ns y ≡ true → among ms y ≡ true) → (y : ℕ) → among (cons_option o ns) y ≡ true
    → among (cons_option o ms) y ≡ true
cons-more None ns ms more y e = more y e
cons-more (Some m) ns ms more y e = go (eqb y m) refl
  where
    go : (t : Bool) → eqb y m ≡ t → among (m ∷ ms) y ≡ true
    go true p = rw p refl
    go false p = rw p (more y (rw p at e))

pub clocks-more : (x : List ℕ × Slot) (slots : List (List ℕ × Slot)) (y : ℕ) → among (clocks_in slots) y ≡ true → among (clocks_in (slots ++ x ∷ [])) y ≡ true
clocks-more x [] y e = cc
clocks-more x (s ∷ slots) y e = go (is_clock_slot s) refl (clocks-more x slots)
  where
    go : (t : Bool) → is_clock_slot s ≡ t → ((z : ℕ) → among (clocks_in slots) z ≡ true → among (clocks_in (slots ++ x ∷ [])) z ≡ true)
        → among (clocks_in (s ∷ slots ++ x ∷ [])) y ≡ true
    go true p rest = rw p (cons-more (child_of s.1) (clocks_in slots) (clocks_in (slots ++ x ∷ [])) rest y (rw p at e))
    go false p rest = rw p (rest y (rw p at e))

pub lasting-more : (name : List ℕ) (s : Slot) (r : Record) (y : ℕ) → among (lasting r) y ≡ true → among (lasting (with_added name s r)) y ≡ true
lasting-more name s r y e = go (is_open r.birth) refl
  where
    go : (t : Bool) → is_open r.birth ≡ t → among (lasting (with_added name s r)) y ≡ true
    go true p = absurd (let clash : false ≡ true = rw p at e in cc)
    go false p = rw p (clocks-more (name, s) r.slots y (rw p at e))

passes-more : (ns ms : List ℕ) → ((y : ℕ) → among ns y ≡ true → among ms y ≡ true) → (s : Slot) → PassesTo ns s → PassesTo ms s
passes-more ns ms more (plain v) h = tt
passes-more ns ms more (child m) h = tt
passes-more ns ms more (strong t target) h = tt
passes-more ns ms more (weak t target) h = tt
passes-more ns ms more (alias m name) h = more m h

pub own-added : (name : List ℕ) (s : Slot) (r : Record) → PassesTo (lasting r) s → HasOwn r → HasOwn (with_added name s r)
own-added name s r here h =
    all-append (λ (x : List ℕ × Slot). PassesTo (lasting (with_added name s r)) x.1) r.slots ((name, s) ∷ [])
    (all-imply (λ (x : List ℕ × Slot). PassesTo (lasting r) x.1) (λ (x : List ℕ × Slot). PassesTo (lasting (with_added name s r)) x.1)
    (λ x k. passes-more (lasting r) (lasting (with_added name s r)) (lasting-more name s r) x.1 k) r.slots h)
    (passes-more (lasting r) (lasting (with_added name s r)) (lasting-more name s r) s here, tt)

-- a sum over the slots of all objects has one number more
pub sum-added : (f : List ℕ × Slot → ℕ) (n : ℕ) (name : List ℕ) (s : Slot) (rs : List Record) → Rises (map (λ (r : Record). r.birth) rs) → (owner : Record)
    → found_at n rs ≡ Some owner
    → sum_by (λ (r : Record). sum_by f r.slots) (map (edited n (with_added name s)) rs) ≡ sum_by (λ (r : Record). sum_by f r.slots) rs + f (name, s)
sum-added f n name s rs up owner found =
    omega (
      arith,
      sum-edited (λ (r : Record). sum_by f r.slots) n (with_added name s) rs up owner found,
      sum_by-append f owner.slots ((name, s) ∷ []),
      sum_by-cons f (name, s) [],
    )

-- a slot that names no child adds no parent and no child
pub children-added : (name : List ℕ) (s : Slot) (slots : List (List ℕ × Slot)) → child_of s ≡ None → children_in (slots ++ (name, s) ∷ []) ≡ children_in slots
children-added name s [] none = ap (λ (o : Option ℕ). cons_option o []) none
children-added name s (x ∷ slots) none = ap (cons_option (child_of x.1)) (children-added name s slots none)

pub none-child : (x : ℕ) (s : Slot) → child_of s ≡ None → cond {A = ℕ} (is_child x s) 1 0 ≡ 0
none-child x (plain v) e = refl
none-child x (child m) e = absurd (let clash : Some m ≡ None = e in cc)
none-child x (strong t target) e = refl
none-child x (weak t target) e = refl
none-child x (alias m name) e = refl

-- a slot more that names no child
pub near-added : (o : Option ℕ) (b : Board) (n : ℕ) (name : List ℕ) (s : Slot) (owner : Record) → record_of b n ≡ Some owner
    → AllByRecursion (λ x. bytes_eq x name ≡ false) (names_in owner.slots) → child_of s ≡ None → Linked (kind_of b) s → PassesTo (lasting owner) s
    → InvariantBut o b
    → InvariantBut o (add n name s b)
unfolding add
near-added o b n name s owner found free none links passes h = near-edit n (with_added name s) (λ r. refl) (λ r. refl) o b firm owns more h
  where
    is : (r : Record) → record_of b n ≡ Some r → owner ≡ r
    is r e = same_Some owner r (sym found ∙ e)

    firm : WellFormed (edit n (with_added name s) b)
    firm =
        firm-edit n (with_added name s) (λ r. refl) (λ r. refl) b h.firm
        (λ r e k. names-added name s r (subst (λ (x : Record). AllByRecursion (λ y. bytes_eq y name ≡ false) (names_in x.slots)) (is r e) free) k)
        (λ r e k. all-append (λ (x : List ℕ × Slot). Linked (kind_of b) x.1) r.slots ((name, s) ∷ []) k (links, tt))
        (λ x r. let nothing : one_child x (name, s) ≡ 0 = none-child x s none in
        omega (arith, nothing, sum_by-append (one_child x) r.slots ((name, s) ∷ []), sum_by-cons (one_child x) (name, s) []))
        (λ r y e k. rw (children-added name s r.slots none) at k)

    owns : (r : Record) → record_of b n ≡ Some r → HasOwn r → HasOwn (with_added name s r)
    owns r e k = own-added name s r (subst (λ (x : Record). PassesTo (lasting x) s) (is r e) passes) k

    more : (k : ℕ) → refs b k ≤ refs (edit n (with_added name s) b) k
    more k = omega (arith, sum-added (one_of k) n name s b.records h.firm.rising owner found)
