-- One small change of a board, the slot of an object let go or an object ended: what it does to sums over the records.
use Rattle.std.proofs.Common.{◌≡◌, refl, ap, sym, subst, ℕ, zero, suc, ◌+◌, ◌<◌, ◌≤◌, Bool, true, false, cond, ◌==◌, List, [], ◌∷◌, map, filter, length, find, slice_get, sum_by, Option, Some, None, is_some, option_map, arith}
use Rattle.qo_model.proofs.Common.{option_map_or, Board, Record, Slot, plain, child, strong, weak, alias, record_of, slot_at, forgotten_in, edited, emptied, without_hold}
use Rattle.std.proofs.lemmas.List.Sums.{sum_by-cons}
use Rattle.std.proofs.lemmas.Option.{same_Some}
use Rattle.qo_model.specs.Board.{referent}

-- where an edit raises no record's number, it raises no sum of them
pub sum-edit_le : (f : Record → ℕ) (n : ℕ) (change : Record → Record) → ((r : Record) → f (change r) ≤ f r) → (rs : List Record)
    → sum_by f (map (edited n change) rs) ≤ sum_by f rs
sum-edit_le f n change less [] = omega arith
sum-edit_le f n change less (r ∷ rs) = go (r.birth == n) refl (sum-edit_le f n change less rs)
  where
    go : (t : Bool) → (r.birth == n) ≡ t → sum_by f (map (edited n change) rs) ≤ sum_by f rs → sum_by f (map (edited n change) (r ∷ rs)) ≤ sum_by f (r ∷ rs)
    go true p rest = rw p (omega (arith, sum_by-cons f (change r) (map (edited n change) rs), sum_by-cons f r rs, less r))
    go false p rest = rw p (omega (arith, sum_by-cons f r (map (edited n change) rs), sum_by-cons f r rs))

-- where it lowers the number of the record that is found by so much at least, it lowers the sum by so much
pub sum-edit_lt : (f : Record → ℕ) (n : ℕ) (change : Record → Record) → ((r : Record) → f (change r) ≤ f r) → (rs : List Record) (x : Record)
    → find (λ (r : Record). r.birth == n) rs ≡ Some x → f (change x) < f x → sum_by f (map (edited n change) rs) < sum_by f rs
sum-edit_lt f n change less [] x e falls = cc
sum-edit_lt f n change less (r ∷ rs) x e falls = go (r.birth == n) refl (sum-edit_lt f n change less rs x)
  where
    go : (t : Bool) → (r.birth == n) ≡ t
        → (find (λ (y : Record). y.birth == n) rs ≡ Some x → f (change x) < f x → sum_by f (map (edited n change) rs) < sum_by f rs)
        → sum_by f (map (edited n change) (r ∷ rs)) < sum_by f (r ∷ rs)
    go true p rest =
        let is : r ≡ x = same_Some r x (rw p at e) in
        let here : f (change r) < f r = subst (λ (y : Record). f (change y) < f y) (sym is) falls in
        rw p (omega (arith, sum_by-cons f (change r) (map (edited n change) rs), sum_by-cons f r rs, sum-edit_le f n change less rs, here))
    go false p rest = rw p (omega (arith, sum_by-cons f r (map (edited n change) rs), sum_by-cons f r rs, rest (rw p at e) falls))

-- a sum over some of the records, each of which has no larger number than before
pub sum-filter_le : (f : Record → ℕ) (g : Record → Record) (keep : Record → Bool) → ((r : Record) → f (g r) ≤ f r) → (rs : List Record)
    → sum_by f (map g (filter keep rs)) ≤ sum_by f rs
sum-filter_le f g keep less [] = omega arith
sum-filter_le f g keep less (r ∷ rs) = go (keep r) refl (sum-filter_le f g keep less rs)
  where
    go : (t : Bool) → keep r ≡ t → sum_by f (map g (filter keep rs)) ≤ sum_by f rs → sum_by f (map g (filter keep (r ∷ rs))) ≤ sum_by f (r ∷ rs)
    go true p rest = rw p (omega (arith, sum_by-cons f (g r) (map g (filter keep rs)), sum_by-cons f r rs, less r))
    go false p rest = rw p (omega (arith, sum_by-cons f r rs))

-- the number of a slot that stands, and what is left of it where it is let go
abbrev pub left_of : (List ℕ × Slot → ℕ) → List ℕ × Slot → ℕ
left_of f s = elim (emptied s.1) as (λ _. ℕ) [ None ↦ 0 | Some left ↦ f (s.0, left) ]

-- letting a slot go changes a sum over the slots by this slot alone
pub sum-without_hold : (f : List ℕ × Slot → ℕ) (i : ℕ) (slots : List (List ℕ × Slot)) (s : List ℕ × Slot) → slice_get slots i ≡ Some s
    → sum_by f (without_hold i slots) + f s ≡ sum_by f slots + left_of f s
sum-without_hold f i [] s e = cc
sum-without_hold f zero (x ∷ slots) s e =
    let is : x ≡ s = same_Some x s e in
    subst (λ (y : List ℕ × Slot). sum_by f (without_hold zero (x ∷ slots)) + f y ≡ sum_by f (x ∷ slots) + left_of f y) is (go (emptied x.1) refl)
  where
    go : (o : Option Slot) → emptied x.1 ≡ o → sum_by f (without_hold zero (x ∷ slots)) + f x ≡ sum_by f (x ∷ slots) + left_of f x
    go None p = rw (without_hold, p, left_of) (omega (arith, sum_by-cons f x slots))
    go (Some left) p = rw (without_hold, p, left_of) (omega (arith, sum_by-cons f (x.0, left) slots, sum_by-cons f x slots))
sum-without_hold f (suc i) (x ∷ slots) s e = omega (arith, sum-without_hold f i slots s e, sum_by-cons f x (without_hold i slots), sum_by-cons f x slots)

-- after the last slot nothing is let go
pub without_hold-past : (i : ℕ) (slots : List (List ℕ × Slot)) → slice_get slots i ≡ None → without_hold i slots ≡ slots
without_hold-past i [] e = refl
without_hold-past zero (x ∷ slots) e = cc
without_hold-past (suc i) (x ∷ slots) e = ap (λ (ss : List (List ℕ × Slot)). x ∷ ss) (without_hold-past i slots e)

-- where what is left of a slot has no larger number, letting go raises no sum
pub sum-without_hold_le : (f : List ℕ × Slot → ℕ) → ((s : List ℕ × Slot) → left_of f s ≤ f s) → (i : ℕ) (slots : List (List ℕ × Slot))
    → sum_by f (without_hold i slots) ≤ sum_by f slots
sum-without_hold_le f less i slots = go (slice_get slots i) refl
  where
    go : (o : Option (List ℕ × Slot)) → slice_get slots i ≡ o → sum_by f (without_hold i slots) ≤ sum_by f slots
    go None p = rw (without_hold-past i slots p) (omega arith)
    go (Some s) p = omega (arith, sum-without_hold f i slots s p, less s)

-- one for a slot that holds an object, else zero
abbrev pub one_held : List ℕ × Slot → ℕ
one_held s = cond {A = ℕ} (is_some (referent s.1)) 1 0

pub left-held : (s : List ℕ × Slot) → left_of one_held s ≡ 0
left-held (name, plain v) = refl
left-held (name, child m) = refl
left-held (name, strong t target) = refl
left-held (name, weak t target) = refl
left-held (name, alias m property) = refl

-- one for each slot
abbrev pub one_slot : List ℕ × Slot → ℕ
one_slot s = 1

pub left-slot : (s : List ℕ × Slot) → left_of one_slot s ≤ 1
left-slot (name, plain v) = omega arith
left-slot (name, child m) = omega arith
left-slot (name, strong t target) = omega arith
left-slot (name, weak t target) = omega arith
left-slot (name, alias m property) = omega arith

pub length-sum : (slots : List (List ℕ × Slot)) → sum_by one_slot slots ≡ length slots
length-sum [] = refl
length-sum (s ∷ slots) = omega (arith, sum_by-cons one_slot s slots, length-sum slots)

-- the record and the entry that a slot of a board stands in
pub record StandsAt (b : Board) (n i : ℕ) (s : Slot) : Type 0 where
  pub owner : Record
  pub entry : List ℕ × Slot
  pub found : record_of b n ≡ Some owner
  pub at : slice_get owner.slots i ≡ Some entry
  pub is : entry.1 ≡ s

pub stands-at : (b : Board) (n i : ℕ) (s : Slot) → slot_at b n i ≡ Some s → StandsAt b n i s
stands-at b n i s e = go (record_of b n) refl e
  where
    at_entry : (r : Record) → record_of b n ≡ Some r → (o : Option (List ℕ × Slot)) → slice_get r.slots i ≡ o
        → option_map (λ (x : List ℕ × Slot). x.1) o ≡ Some s → StandsAt b n i s
    at_entry r p None q h = cc
    at_entry r p (Some x) q h = record { owner = r; entry = x; found = p; at = q; is = same_Some x.1 s h }

    go : (o : Option Record) → record_of b n ≡ o → option_map (λ (x : List ℕ × Slot). x.1) (slice_get (option_map_or (λ (r : Record). r.slots) o []) i) ≡ Some s
        → StandsAt b n i s
    go None p h = cc
    go (Some r) p h = at_entry r p (slice_get r.slots i) refl h

-- a change of slots that leaves what they hold changes no sum over what they hold
pub sum-held : (f : Option ℕ → ℕ) (g : Slot → Slot) → ((s : Slot) → referent (g s) ≡ referent s) → (slots : List (List ℕ × Slot))
    → sum_by (λ (s : List ℕ × Slot). f (referent s.1)) (map (λ (s : List ℕ × Slot). (s.0, g s.1)) slots)
    ≡ sum_by (λ (s : List ℕ × Slot). f (referent s.1)) slots
sum-held f g same [] = refl
sum-held f g same (s ∷ slots) =
    omega (
      arith,
      sum-held f g same slots,
      ap f (same s.1),
      sum_by-cons (λ (x : List ℕ × Slot). f (referent x.1)) (s.0, g s.1) (map (λ (x : List ℕ × Slot). (x.0, g x.1)) slots),
      sum_by-cons (λ (x : List ℕ × Slot). f (referent x.1)) s slots,
    )

-- one where an option has a value, and where it has this value
abbrev pub one_some : Option ℕ → ℕ
one_some o = cond {A = ℕ} (is_some o) 1 0

abbrev pub one_is : ℕ → Option ℕ → ℕ
one_is n o = cond {A = ℕ} (elim o as (λ _. Bool) [ None ↦ false | Some m ↦ m == n ]) 1 0

-- the emptied weak links leave what slots hold
pub held-forgotten : (n : ℕ) (s : Slot) → referent (forgotten_in n s) ≡ referent s
held-forgotten n (plain v) = refl
held-forgotten n (child m) = refl
held-forgotten n (strong t target) = refl
held-forgotten n (weak t None) = refl
held-forgotten n (weak t (Some m)) = refl
held-forgotten n (alias m property) = refl
