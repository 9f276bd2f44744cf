-- A table that is given up gives what its rows have, and one in which a value was written has it in its row.
use Rattle.std.proofs.Common.{◌≡◌, ◌≢◌, refl, ap, ◌∙◌, ℕ, zero, suc, ◌+◌, ◌<◌, Bool, cond, List, [], ◌∷◌, length, sum_by, count_by, Option, Some, None, is_some, nat_lt, remove, slice_set, arith}
use Rattle.std.specs.List.{AllByRecursion}
use Rattle.std.specs.Option.{option_map_or}
use Rattle.std.proofs.lemmas.List.{get_or-set_same, get_or-set_other}
use Rattle.std.proofs.lemmas.List.Sums.{sum_by-cons}
use Rattle.qo_slots.specs.declared.keys.Key.{Key}
use Rattle.qo_slots.specs.Table.{Table, Updates, live_count, values_in, with_value}
use Rattle.qo_slots.specs.Table as slots
use Rattle.qo_slots.proofs.TableLemmas.{IsLive-updated_other, IsLive-within, found-IsLive, sum-updated, Updates-with_value}
use Rattle.qo_heap.specs.Rows.{IsLive, Rises, edit}
use Rattle.qo_heap.specs.Order.{IsOrdered, rows_in, births_of, front}
use Rattle.qo_heap.proofs.RowsLemmas.{IsFound, agrees, all-above, found-live, front-within, live-stored, other-index, rows-changed, rows-cons, stored-changed, Stored}

module _ {T : Type 0} (p : T → Bool) where
  -- what a slot counts
  abbrev weight : Option (ℕ × T) → ℕ
  weight slot = option_map_or (λ (e : ℕ × T). cond {A = ℕ} (p e.1) 1 0) slot 0

  values-counted : (slots : List (Option (ℕ × T))) → count_by p (values_in slots) ≡ sum_by weight slots
  values-counted [] = refl
  values-counted (None ∷ rest) = omega (arith, values-counted rest, sum_by-cons weight None rest)
  values-counted (Some e ∷ rest) =
      omega (arith, values-counted rest, sum_by-cons weight (Some e) rest, sum_by-cons (λ (x : T). cond {A = ℕ} (p x) 1 0) e.1 (values_in rest))

  none-counted : (slots : List (Option (ℕ × T))) → count_by is_some slots ≡ 0 → sum_by weight slots ≡ 0
  none-counted [] none = refl
  none-counted (None ∷ rest) none =
      let split = sum_by-cons (λ (s : Option (ℕ × T)). cond {A = ℕ} (is_some s) 1 0) None rest in
      omega (arith, none-counted rest (omega (arith, none, split)), sum_by-cons weight None rest)
  none-counted (Some e ∷ rest) none =
      let split = sum_by-cons (λ (s : Option (ℕ × T)). cond {A = ℕ} (is_some s) 1 0) (Some e) rest in
      absurd (omega (arith, none, split))

  -- names above one that is taken out have what they had
  others : (t u : Table T) (key : Key) (v : T) → slots.find t key.index ≡ Some (key.birth, v) → Updates t u key.index None → (order : List Key) → Stored t order
      → AllByRecursion (λ (k : Key). key.birth < k.birth) order → (rows_in u order ≡ rows_in t order) × Stored u order
  others t u key v found updates [] stored above = (refl, tt)
  others t u key v found updates (k ∷ ks) stored above =
      let (vk, e) = found-IsLive t k stored.0 in
      let up : key.birth < k.birth = above.0 in
      let other : k.index ≢ key.index = other-index t key k v vk found e up in
      let rest = others t u key v found updates ks stored.1 above.1 in (
        rw (rows-cons t k ks vk e, rows-cons u k ks vk (updates.others k.index other ∙ e)) (ap (λ (l : List (Key × T)). (k, vk) ∷ l) rest.0),
        (IsLive-updated_other t u key.index None k updates other stored.0, rest.1),
      )

  emptied : (t : Table T) (key : Key) → slots.IsLive t key → Updates t (record t { slots = slice_set t.slots key.index None }) key.index None
  emptied t key live = record {
    changed = get_or-set_same t.slots key.index _ None (IsLive-within t key live);
    others = λ other differs. get_or-set_other t.slots key.index other _ None differs;
  }

  all-counted : (t : Table T) (order : List Key) → Stored t order → (above last : ℕ) → Rises above (births_of order) last → live_count t ≡ length order
      → sum_by weight t.slots ≡ count_by (λ (row : Key × T). p row.1) (rows_in t order)
  all-counted t [] stored above last rises size = none-counted t.slots size
  all-counted t (k ∷ ks) stored above last rises size =
      let (v, e) = found-IsLive t k stored.0 in
      let u : Table T = record t { slots = slice_set t.slots k.index None } in
      let updates = emptied t k stored.0 in
      let left = others t u k v e updates ks stored.1 (all-above k.birth k.birth last ks (omega arith) rises.1) in
      let lives : live_count u + 1 ≡ live_count t = omega (
        arith,
        sum-updated (λ (s : Option (ℕ × T)). cond {A = ℕ} (is_some s) 1 0) refl t u k.index None updates,
        ap (λ (s : Option (ℕ × T)). cond {A = ℕ} (is_some s) 1 0) e,
      ) in
      let rest = all-counted u ks left.1 k.birth last rises.1 (omega (arith, lives, size)) in
      let here = sum-updated weight refl t u k.index None updates in
      let same = ap (λ (l : List (Key × T)). count_by (λ (row : Key × T). p row.1) l) left.0 in
      rw (rows-cons t k ks v e)
      (omega (arith, rest, same, here, ap weight e, sum_by-cons (λ (row : Key × T). cond {A = ℕ} (p row.1) 1 0) (k, v) (rows_in t ks)))

  pub given-counted : (t : Table T) (order : List Key) → Stored t order → (last : ℕ) → Rises 0 (births_of order) last → live_count t ≡ length order
      → count_by p (values_in t.slots) ≡ count_by (λ (row : Key × T). p row.1) (rows_in t order)
  given-counted t order stored last rises size = values-counted t.slots ∙ all-counted t order stored 0 last rises size

module _ {T : Type 0} where
  -- a value that was written leaves the number of values
  pub written-count : (t : Table T) (key : Key) (v w : T) → slots.find t key.index ≡ Some (key.birth, v) → slots.IsLive t key
      → live_count (with_value t key w) ≡ live_count t
  written-count t key v w found live =
      omega (
        arith,
        sum-updated (λ (s : Option (ℕ × T)). cond {A = ℕ} (is_some s) 1 0) refl t (with_value t key w) key.index (Some (key.birth, w))
            (Updates-with_value t key w live),
        ap (λ (s : Option (ℕ × T)). cond {A = ℕ} (is_some s) 1 0) found,
      )

  -- a list without the name of a live object is shorter by one
  pub remove-length : (t : Table T) (order : List Key) → Stored t order → (key : Key) → IsLive (rows_in t order) key
      → length order ≡ length (remove order (front (λ (k : Key). nat_lt k.birth key.birth) order)) + 1
  remove-length t order stored key live = shorter order (front (λ (k : Key). nat_lt k.birth key.birth) order) (front-within t order stored key live)
    where
      shorter : (xs : List Key) (i : ℕ) → i < length xs → length xs ≡ length (remove xs i) + 1
      shorter [] i within = absurd (omega arith)
      shorter (x ∷ xs) zero within = omega arith
      shorter (x ∷ xs) (suc i) within = omega (arith, shorter xs i (omega arith))

  -- a table in which the object of a live name was written, with the names in their order
  pub record Written (t : Table T) (order : List Key) (key : Key) (w : T) : Type 0 where
    pub rows : rows_in (with_value t key w) order ≡ edit key.birth (λ _. w) (rows_in t order)
    pub ordered : IsOrdered (with_value t key w) order

  pub written : (t : Table T) (order : List Key) → IsOrdered t order → (key : Key) → IsLive (rows_in t order) key → (w : T) → Written t order key w
  written t order good key live w =
      let there : IsFound t (rows_in t order) key = found-live t order good.stored key live in
      let stored = live-stored t order good.stored key live in
      let updates = Updates-with_value t key w stored in
      record {
        rows = rows-changed t (with_value t key w) key there.value w there.found updates order good.stored
            (agrees t order good.stored 0 t.born good.rising key live);
        ordered = record {
          stored = stored-changed t (with_value t key w) key there.value w there.found updates order good.stored;
          rising = good.rising;
          all = written-count t key there.value w there.found stored ∙ good.all;
        };
      }
