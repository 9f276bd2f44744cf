-- What of a board's soundness speaks of no reference is kept by the end of an object that has none.
use Rattle.std.proofs.Common.{◌≡◌, refl, ap, sym, subst, ◌∙◌, ℕ, ◌≤◌, Bool, true, false, not, ◌==◌, List, [], ◌∷◌, map, filter, sum_by, Option, Some, None, is_some, option_map, arith}
use Rattle.qo_model.proofs.Common.{AllByRecursion, IsDistinct, option_map_or, bytes_eq, type_name, TypeId, Board, Record, Slot, plain, child, strong, weak, alias, record_of, kind_of, among, leads, births, children_in, children_of, refs, refs_in, holds_it, forgotten_in, forgotten, finish, Rises, is_a}
use Rattle.std.proofs.lemmas.Bool.{eqb-true}
use Rattle.std.proofs.lemmas.List.Sums.{sum_by-cons}
use Rattle.qo_model.proofs.EditLemmas.{sum-filter_le}
use Rattle.qo_model.proofs.StepLemmas.{finish-record, finish-gone, finish-births, one_of}
use Rattle.qo_sound.proofs.RecordLemmas.{all-both, all-map, all-filter}
use Rattle.qo_sound.proofs.SlotLemmas.{names-each, children-each, sum-each_same, one_child, child-forgotten, one_child-same}
use Rattle.qo_sound.proofs.FirmBoardLemmas.{FitsKind, Linked, HasNames, parents_in, WellFormed, Leads-within, rises-filter}

-- where no slot counts, none holds it
none-holds : (x : ℕ) (slots : List (List ℕ × Slot)) → sum_by (one_of x) slots ≡ 0 → AllByRecursion (λ (s : List ℕ × Slot). holds_it x s.1 ≡ false) slots
none-holds x [] e = tt
none-holds x (s ∷ slots) e = (go (holds_it x s.1) refl, none-holds x slots (omega (arith, e, sum_by-cons (one_of x) s slots)))
  where
    go : (t : Bool) → holds_it x s.1 ≡ t → holds_it x s.1 ≡ false
    go false p = p
    go true p =
        let one : one_of x s ≡ 1 = rw p refl in
        absurd (let clash : 1 ≤ 0 = omega (arith, e, one, sum_by-cons (one_of x) s slots) in omega arith)

-- where the records count nothing, none of them does
none-counts : (f : Record → ℕ) (rs : List Record) → sum_by f rs ≡ 0 → AllByRecursion (λ (r : Record). f r ≡ 0) rs
none-counts f [] e = tt
none-counts f (r ∷ rs) e = (omega (arith, e, sum_by-cons f r rs), none-counts f rs (omega (arith, e, sum_by-cons f r rs)))

-- after an end the object has no type, and the others have theirs
kind-other : (b : Board) (n x : ℕ) → (x == n) ≡ false → kind_of (finish b n) x ≡ kind_of b x
kind-other b n x apart = ap (option_map (λ (r : Record). r.kind)) (finish-record b n x apart) ∙ go (record_of b x)
  where
    go : (o : Option Record) → option_map (λ (r : Record). r.kind) (option_map (forgotten n) o) ≡ option_map (λ (r : Record). r.kind) o
    go None = refl
    go (Some r) = refl

-- what a slot names that does not hold n is there after the end of n
module _ (n : ℕ) (kinds after : ℕ → Option TypeId) (same : (x : ℕ) → (x == n) ≡ false → after x ≡ kinds x) where
  target-fits : (t : TypeId) (m : ℕ) → (m == n) ≡ false → FitsKind kinds t (Some m) → FitsKind after t (Some m)
  target-fits t m apart h = subst (λ (o : Option TypeId). option_map_or (λ (k : TypeId). is_a k (type_name t)) o false ≡ true) (sym (same m apart)) h

  slot-linked : (s : Slot) → holds_it n s ≡ false → Linked kinds s → Linked after (forgotten_in n s)
  slot-linked (plain v) e h = tt
  slot-linked (child m) e h = subst (λ (o : Option TypeId). is_some o ≡ true) (sym (same m e)) h
  slot-linked (strong t None) e h = tt
  slot-linked (strong t (Some m)) e h = target-fits t m e h
  slot-linked (weak t None) e h = tt
  slot-linked (weak t (Some m)) e h = go (m == n) refl
    where
      go : (u : Bool) → (m == n) ≡ u → Linked after (forgotten_in n (weak t (Some m)))
      go true p = rw (forgotten_in, p) tt
      go false p = rw (forgotten_in, p) (target-fits t m p h)
  slot-linked (alias m name) e h = tt

  slots-linked : (slots : List (List ℕ × Slot)) → sum_by (one_of n) slots ≡ 0 → AllByRecursion (λ (s : List ℕ × Slot). Linked kinds s.1) slots
      → AllByRecursion (λ (s : List ℕ × Slot). Linked after s.1) (map (λ (s : List ℕ × Slot). (s.0, forgotten_in n s.1)) slots)
  slots-linked slots e h =
      all-map (λ (s : List ℕ × Slot). (holds_it n s.1 ≡ false) × Linked kinds s.1) (λ (s : List ℕ × Slot). Linked after s.1)
      (λ (s : List ℕ × Slot). (s.0, forgotten_in n s.1)) (λ s k. slot-linked s.1 k.0 k.1) slots
      (all-both (λ (s : List ℕ × Slot). holds_it n s.1 ≡ false) (λ (s : List ℕ × Slot). Linked kinds s.1) slots (none-holds n slots e) h)

pub finish-leads : (b : Board) (n x y : ℕ) → leads (children_of (finish b n)) x y ≡ true → leads (children_of b) x y ≡ true
finish-leads b n x y e = go (x == n) refl
  where
    at_record : (o : Option Record) → among (children_in (option_map_or (λ (r : Record). r.slots) (option_map (forgotten n) o) [])) y ≡ true
        → among (children_in (option_map_or (λ (r : Record). r.slots) o [])) y ≡ true
    at_record None k = k
    at_record (Some r) k = rw (children-each (forgotten_in n) (child-forgotten n) r.slots) at k

    go : (t : Bool) → (x == n) ≡ t → leads (children_of b) x y ≡ true
    go true p =
        let gone : record_of (finish b n) x ≡ None = ap (record_of (finish b n)) (eqb-true x n p) ∙ finish-gone b n in
        absurd (let clash : false ≡ true = subst (λ (o : Option Record). among (children_in (option_map_or (λ (r : Record). r.slots) o [])) y ≡ true) gone e in
        cc)
    go false p = at_record (record_of b x)
        (subst (λ (o : Option Record). among (children_in (option_map_or (λ (r : Record). r.slots) o [])) y ≡ true) (finish-record b n x p) e)

-- what is known of a record: its links, and that it does not hold n
abbrev LinkedOnes : Board → Record → Type 0
LinkedOnes b r = AllByRecursion (λ (s : List ℕ × Slot). Linked (kind_of b) s.1) r.slots

abbrev Both : Board → ℕ → Record → Type 0
Both b n r = (refs_in n r ≡ 0) × AllByRecursion (λ (s : List ℕ × Slot). Linked (kind_of b) s.1) r.slots

pub firm-finish : (b : Board) (n : ℕ) → refs b n ≡ 0 → WellFormed b → WellFormed (finish b n)
unfolding finish
firm-finish b n free h =
    record {
      rising = subst Rises (sym (finish-births b n)) (rises-filter (λ (x : ℕ). not (x == n)) (births b) h.rising);
      within = subst (AllByRecursion (λ m. m ≤ b.born)) (sym (finish-births b n)) (all-filter (λ m. m ≤ b.born) (λ (x : ℕ). not (x == n)) (births b) h.within);
      begun = h.begun;
      named =
          all-map HasNames HasNames (forgotten n) (λ r k. subst (IsDistinct bytes_eq) (sym (names-each (forgotten_in n) r.slots)) k)
          (filter (λ (r : Record). not (r.birth == n)) b.records) (all-filter HasNames (λ (r : Record). not (r.birth == n)) b.records h.named);
      linked =
          all-map (Both b n) (λ (r : Record). AllByRecursion (λ (s : List ℕ × Slot). Linked (kind_of (finish b n)) s.1) r.slots) (forgotten n)
          (λ r k. slots-linked n (kind_of b) (kind_of (finish b n)) (kind-other b n) r.slots k.0 k.1)
          (filter (λ (r : Record). not (r.birth == n)) b.records) (all-filter (Both b n) (λ (r : Record). not (r.birth == n)) b.records
          (all-both (λ (r : Record). refs_in n r ≡ 0) (LinkedOnes b) b.records (none-counts (refs_in n) b.records (omega (arith, free))) h.linked));
      one_parent = λ x. omega (
        arith,
        sum-filter_le (parents_in x) (forgotten n) (λ (r : Record). not (r.birth == n))
            (λ r. omega (arith, sum-each_same (one_child x) (forgotten_in n) (one_child-same (forgotten_in n) (child-forgotten n) x) r.slots)) b.records,
        h.one_parent x,
      );
      none_round = λ m l. h.none_round m (Leads-within (children_of (finish b n)) (children_of b) (finish-leads b n) l);
    }
