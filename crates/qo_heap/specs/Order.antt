-- For proofs alone. The rows that a table of slots has, in the order of a list of names.
use Rattle.std.specs.Prelude.{ℕ, suc, Bool, if◌then◌else◌, ◌≡◌, List, [], ◌∷◌, length, map, filter_map, option_map}
use Rattle.std.specs.List.{AllByRecursion}
use Rattle.qo_slots.specs.declared.keys.Key.{Key}
use Rattle.qo_slots.specs.Table.{Table, find, live_count}
use Rattle.qo_slots.specs.Table as slots
use Rattle.qo_heap.specs.Rows.{Rises}

-- the births of names
abbrev pub births_of : List Key → List ℕ
births_of order = map (λ (k : Key). k.birth) order

-- how many members at the front of a list pass a test
abbrev pub front : {X : Type 0} → (X → Bool) → List X → ℕ
front p [] = 0
front p (x ∷ xs) = if p x then suc (front p xs) else 0

module _ {T : Type 0} where
  -- the names, each with what the table has under it
  abbrev pub rows_in : Table T → List Key → List (Key × T)
  rows_in t order = filter_map (λ (k : Key). option_map (λ (e : ℕ × T). (k, e.1)) (find t k.index)) order

  -- each name of the list is live in the table, births rise along it, and no other name is live
  pub record IsOrdered (t : Table T) (order : List Key) : Type 0 where
    pub stored : AllByRecursion (λ (k : Key). slots.IsLive t k) order
    pub rising : Rises 0 (births_of order) t.born
    pub all : live_count t ≡ length order
