-- Lemmas on what contracts see of a table, for this crate and its callers.
use Rattle.std.proofs.Common.{◌≡◌, ◌≢◌, ℕ, zero, suc, ◌+◌, ◌<◌, List, [], ◌∷◌, length, map, get_or, sum_by, Option, None, Some, refl, ap, arith, IsSomeAnd}
use Rattle.std.proofs.lemmas.List.{get_or-set_same, get_or-set_other, get_or_past}
use Rattle.std.proofs.lemmas.List.Sums.{sum_by-cons}
use Rattle.slab.specs.Slab.{entries_from}
use Rattle.qo_slots.specs.declared.keys.Key.{Key}
use Rattle.qo_slots.specs.Table.{Table, find, IsLive, Updates, with_value, values_in}

module _ {T : Type 0} where
  -- the entries of a slab, without keys and births, are the values of its slots
  pub map-entries_from : (key : ℕ) (slots : List (Option (ℕ × T))) → map (λ e. e.1.1) (entries_from key slots) ≡ values_in slots
  map-entries_from key [] = refl
  map-entries_from key (None ∷ rest) = map-entries_from (key + 1) rest
  map-entries_from key (Some e ∷ rest) = ap (λ xs. e.1 ∷ xs) (map-entries_from (key + 1) rest)

  -- a key is live where its birth stands at its index
  pub IsLive-found : (t : Table T) (key : Key) (value : T) → find t key.index ≡ Some (key.birth, value) → IsLive t key
  IsLive-found t key value found = rw found refl

  -- a live key has a value
  pub found-IsLive : (t : Table T) (key : Key) → IsLive t key → (value : T) × (find t key.index ≡ Some (key.birth, value))
  found-IsLive t key = by_slot (find t key.index)
    where
      by_slot : (slot : Option (ℕ × T)) → IsSomeAnd slot (λ e. e.0 ≡ key.birth) → (value : T) × (slot ≡ Some (key.birth, value))
      by_slot None live = absurd live
      by_slot (Some e) live = (e.1, ap (λ b. Some (b, e.1)) live)

  -- a live key has a slot
  pub IsLive-within : (t : Table T) (key : Key) → IsLive t key → key.index < length t.slots
  IsLive-within t key live = grind (arith, get_or_past, (found-IsLive t key live).1)

  -- a change elsewhere leaves a live key live
  pub IsLive-updated_other : (old new : Table T) (index : ℕ) (slot : Option (ℕ × T)) (key : Key) → Updates old new index slot → key.index ≢ index
      → IsLive old key → IsLive new key
  IsLive-updated_other old new index slot key updates differs live = rw (updates.others key.index differs) live

  -- a write through `change` changes that key alone
  pub Updates-with_value : (t : Table T) (key : Key) (value : T) → IsLive t key → Updates t (with_value t key value) key.index (Some (key.birth, value))
  Updates-with_value t key value live = record {
    changed = get_or-set_same t.slots key.index _ None (IsLive-within t key live);
    others = λ other differs. get_or-set_other t.slots key.index other _ None differs;
  }

module _ {X : Type 0} (weight : Option X → ℕ) (none : weight None ≡ 0) where
  -- the slots after the first
  after_first : List (Option X) → List (Option X)
  after_first [] = []
  after_first (x ∷ xs) = xs

  get_or-after_first : (xs : List (Option X)) (k : ℕ) → get_or (after_first xs) k None ≡ get_or xs (suc k) None
  unfolding after_first
  get_or-after_first [] k = refl
  get_or-after_first (x ∷ xs) k = refl

  sum_by-after_first : (xs : List (Option X)) → sum_by weight xs ≡ weight (get_or xs 0 None) + sum_by weight (after_first xs)
  unfolding after_first
  sum_by-after_first [] = omega (arith, none)
  sum_by-after_first (x ∷ xs) = sum_by-cons weight x xs

  -- slots that agree at each index weigh the same, whatever their number
  sum_by-agreeing : (xs ys : List (Option X)) → ((k : ℕ) → get_or ys k None ≡ get_or xs k None) → sum_by weight ys ≡ sum_by weight xs
  unfolding after_first
  sum_by-agreeing [] [] same = refl
  sum_by-agreeing [] (y ∷ ys) same =
      omega (arith, sum_by-cons weight y ys, none, ap weight (same 0), sum_by-agreeing [] ys (λ k. same (suc k)))
  sum_by-agreeing (x ∷ xs) ys same =
      omega (
        arith,
        sum_by-cons weight x xs,
        sum_by-after_first ys,
        ap weight (same 0),
        sum_by-agreeing xs (after_first ys) (λ k. rw (get_or-after_first ys k) (same (suc k))),
      )

  -- slots that agree at each index but one differ in weight by what stands there
  sum_by-changed : (i : ℕ) (xs ys : List (Option X)) → ((k : ℕ) → k ≢ i → get_or ys k None ≡ get_or xs k None)
      → sum_by weight ys + weight (get_or xs i None) ≡ sum_by weight xs + weight (get_or ys i None)
  sum_by-changed zero xs ys same =
      omega (
        arith,
        sum_by-after_first xs,
        sum_by-after_first ys,
        sum_by-agreeing (after_first xs) (after_first ys) (λ k. rw (get_or-after_first xs k, get_or-after_first ys k) (same (suc k) (omega arith))),
      )
  sum_by-changed (suc i) xs ys same =
      omega (
        arith,
        sum_by-after_first xs,
        sum_by-after_first ys,
        ap weight (same 0 (omega arith)),
        rw (get_or-after_first xs i, get_or-after_first ys i) at (sum_by-changed i (after_first xs) (after_first ys)
            (λ k differs. rw (get_or-after_first xs k, get_or-after_first ys k) (same (suc k) (omega arith)))),
      )

-- where one index is changed, a sum over the slots loses what stood there and gains what stands there
pub sum-updated : {T : Type 0} (weight : Option (ℕ × T) → ℕ) → weight None ≡ 0 → (old new : Table T) (index : ℕ) (slot : Option (ℕ × T))
    → Updates old new index slot → sum_by weight new.slots + weight (find old index) ≡ sum_by weight old.slots + weight slot
sum-updated weight none old new index slot updates =
    rw updates.changed at (sum_by-changed weight none index old.slots new.slots updates.others)
