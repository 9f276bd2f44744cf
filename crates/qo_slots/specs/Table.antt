-- For proofs alone. What contracts see of a table: a finite map of keys to values.
use Rattle.std.specs.Prelude.{◌≡◌, ◌≢◌, ℕ, ◌+◌, ◌≤◌, ◌<◌, ◌^◌, List, Option, None, Some, IfSome, IsSomeAnd, is_some, count_by, filter_map, slice_index_or, slice_set, refl}
use Rattle.std.specs.Option.{option_map}
use Rattle.std.specs.Coded.{Coded, code_by, coded×, coded_ℕ, coded_list, coded_option}
use Rattle.qo_slots.specs.declared.keys.Key.{Key}

-- at each index the birth and the value that stand there, or nothing; the birth that was given
-- last, 0 where none was; and how many values there is memory for
pub record Table (T : Type 0) : Type 0 where
  pub slots : List (Option (ℕ × T))
  pub born : ℕ
  pub capacity : ℕ

-- a table is stored as the tuple of its fields
abbrev pub table_code : {T : Type 0} → Coded T → Coded (Table T)
table_code {T} code =
    code_by
    (List (Option (ℕ × T)) × (ℕ × ℕ))
    (coded× (coded_list (coded_option (coded× coded_ℕ code))) (coded× coded_ℕ coded_ℕ))
    (λ t. (t.slots, (t.born, t.capacity)))
    (λ p. record { slots = p.0; born = p.1.0; capacity = p.1.1 })
    (λ _. refl)

module _ {T : Type 0} where
  -- the birth and the value at an index
  abbrev pub find : Table T → ℕ → Option (ℕ × T)
  find t index = slice_index_or t.slots index None

  -- the key has a value: one of its birth stands at its index
  abbrev pub IsLive : Table T → Key → Type 0
  IsLive t key = IsSomeAnd (find t key.index) (λ e. e.0 ≡ key.birth)

  -- how many keys have a value
  abbrev pub live_count : Table T → ℕ
  live_count t = count_by is_some t.slots

  -- so many more values fit with no memory, and so many births are left below 2^64
  abbrev pub HasSpare : Table T → ℕ → Type 0
  HasSpare t n = (live_count t + n ≤ t.capacity) × (t.born + n < 2 ^ 64)

  -- each birth in these slots is one that was given: from 1 to the last
  abbrev pub BirthsGiven : List (Option (ℕ × T)) → ℕ → Type 0
  BirthsGiven slots born = (index : ℕ) → IfSome (slice_index_or slots index None) (λ e. (1 ≤ e.0) × (e.0 ≤ born))

  -- this stands at the index now, and at every other index what stood there before
  pub record Updates (old new : Table T) (index : ℕ) (slot : Option (ℕ × T)) : Type 0 where
    pub changed : find new index ≡ slot
    pub others : (other : ℕ) → other ≢ index → find new other ≡ find old other

  -- the table with this value under a key
  abbrev pub with_value : Table T → Key → T → Table T
  with_value t key value = record t { slots = slice_set t.slots key.index (Some (key.birth, value)) }

  -- the values in these slots, by rising index
  abbrev pub values_in : List (Option (ℕ × T)) → List T
  values_in slots = filter_map (option_map (λ e. e.1)) slots
