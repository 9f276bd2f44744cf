-- What a list of names says of the rows, and how the rows follow the table of slots.
use Rattle.std.proofs.Common.{◌≡◌, ◌≢◌, refl, ap, ap₂, sym, subst, ◌∙◌, ℕ, suc, ◌+◌, ◌<◌, ◌≤◌, Bool, true, false, not, cond, leb, nat_lt, List, [], ◌∷◌, ◌++◌, map, length, get_or, eqb, Option, Some, None, find, option_map, slice_get, zero, remove, arith}
use Rattle.std.specs.List.{AllByRecursion, position_or_len}
use Rattle.std.proofs.lemmas.Bool.{eqb-true, eq-eqb}
use Rattle.std.proofs.lemmas.Bool.Decides.{nat_tests}
use Rattle.std.proofs.lemmas.Option.{slice_get-map}
use Rattle.std.proofs.lemmas.List.{length_push}
use Rattle.std.proofs.lemmas.List.Elements.{filter_map-append}
use Rattle.std.specs.Option.{option_map_or}
use Rattle.qo_slots.specs.declared.keys.Key.{Key}
use Rattle.qo_slots.specs.Table.{Table, Updates}
use Rattle.qo_slots.specs.Table as slots
use Rattle.qo_slots.proofs.TableLemmas.{found-IsLive, IsLive-updated_other}
use Rattle.qo_heap.specs.Rows.{Rises, row_at, object_at, IsLive, edit, without, births}
use Rattle.qo_heap.specs.Order.{rows_in, births_of, front, IsOrdered}

-- two names of one birth at one index are one
pub same_key : (k key : Key) → k.index ≡ key.index → k.birth ≡ key.birth → k ≡ key
same_key k key i b = ap₂ (λ (x y : ℕ). record { index = x; birth = y }) i b

-- where a name has the birth of another, it has its index
abbrev pub Agrees : Key → List Key → Type 0
Agrees key order = AllByRecursion (λ (k : Key). k.birth ≡ key.birth → k.index ≡ key.index) order

-- along rising births all are above the first
pub all-above : (n above last : ℕ) (order : List Key) → n ≤ above → Rises above (births_of order) last → AllByRecursion (λ (k : Key). n < k.birth) order
all-above n above last [] le rises = tt
all-above n above last (k ∷ ks) le rises =
    let up : above < k.birth = rises.0 in
    (omega arith, all-above n k.birth last ks (omega arith) rises.1)

agrees-above : (key : Key) (order : List Key) → AllByRecursion (λ (k : Key). key.birth < k.birth) order → Agrees key order
agrees-above key [] above = tt
agrees-above key (k ∷ ks) above =
    let up : key.birth < k.birth = above.0 in
    ((λ (is : k.birth ≡ key.birth). absurd (omega arith)), agrees-above key ks above.1)

module _ {T : Type 0} where
  -- each name is live
  abbrev pub Stored : Table T → List Key → Type 0
  Stored t order = AllByRecursion (λ (k : Key). slots.IsLive t k) order

  pub same-births : (a b : ℕ) (v w : T) → ◌≡◌ {A = Option (ℕ × T)} (Some (a, v)) (Some (b, w)) → a ≡ b
  same-births a b v w same = ap (λ (o : Option (ℕ × T)). option_map_or (λ (e : ℕ × T). e.0) o 0) same

  -- the rows of names, of which the first has this value
  pub rows-cons : (t : Table T) (k : Key) (ks : List Key) (v : T) → slots.find t k.index ≡ Some (k.birth, v) → rows_in t (k ∷ ks) ≡ (k, v) ∷ rows_in t ks
  rows-cons t k ks v e = rw e refl

  -- the names of the rows are those of the list
  pub rows-keys : (t : Table T) (order : List Key) → Stored t order → map (λ (row : Key × T). row.0) (rows_in t order) ≡ order
  rows-keys t [] stored = refl
  rows-keys t (k ∷ ks) stored =
      let (v, e) = found-IsLive t k stored.0 in
      rw (rows-cons t k ks v e) (ap (λ (l : List Key). k ∷ l) (rows-keys t ks stored.1))

  -- what is under a name that is live among the rows
  pub record IsFound (t : Table T) (rows : List (Key × T)) (key : Key) : Type 0 where
    pub value : T
    pub found : slots.find t key.index ≡ Some (key.birth, value)
    pub row : row_at rows key.birth ≡ Some (key, value)

  pub found-live : (t : Table T) (order : List Key) → Stored t order → (key : Key) → IsLive (rows_in t order) key → IsFound t (rows_in t order) key
  found-live t [] stored key live = absurd live
  found-live t (k ∷ ks) stored key live =
      let (v, e) = found-IsLive t k stored.0 in
      rw (rows-cons t k ks v e) (go v e (rw (rows-cons t k ks v e) at live) (eqb k.birth key.birth) refl (found-live t ks stored.1 key))
    where
      go : (v : T) → slots.find t k.index ≡ Some (k.birth, v) → IsLive ((k, v) ∷ rows_in t ks) key → (b : Bool) → eqb k.birth key.birth ≡ b
          → (IsLive (rows_in t ks) key → IsFound t (rows_in t ks) key) → IsFound t ((k, v) ∷ rows_in t ks) key
      go v e here true is later =
          let i : k.index ≡ key.index = rw is at here in
          let same : k ≡ key = same_key k key i (eqb-true k.birth key.birth is) in
          record { value = v; found = rw (← same) e; row = rw is (ap (λ (x : Key). Some (x, v)) same) }
      go v e here false is later =
          let rest = later (rw is at here) in
          record { value = rest.value; found = rest.found; row = rw is rest.row }

  -- the births of the rows
  pub rows-births : (t : Table T) (order : List Key) → Stored t order → births (rows_in t order) ≡ births_of order
  rows-births t [] stored = refl
  rows-births t (k ∷ ks) stored =
      let (v, e) = found-IsLive t k stored.0 in
      rw (rows-cons t k ks v e) (ap (λ (l : List ℕ). k.birth ∷ l) (rows-births t ks stored.1))

  -- what a live name has in the table, its row has
  same-values : (a b : ℕ) (v w : T) → ◌≡◌ {A = Option (ℕ × T)} (Some (a, v)) (Some (b, w)) → v ≡ w
  same-values a b v w same = ap (λ (o : Option (ℕ × T)). option_map_or (λ (e : ℕ × T). e.1) o v) same

  pub live-stored : (t : Table T) (order : List Key) → Stored t order → (key : Key) → IsLive (rows_in t order) key → slots.IsLive t key
  live-stored t order stored key live = let found = found-live t order stored key live in rw found.found refl

  pub object-found : (t : Table T) (order : List Key) → Stored t order → (key : Key) → IsLive (rows_in t order) key → (w : T)
      → slots.find t key.index ≡ Some (key.birth, w) → object_at (rows_in t order) key.birth ≡ Some w
  object-found t order stored key live w is =
      let found = found-live t order stored key live in
      rw found.row (ap Some (same-values key.birth key.birth found.value w (sym found.found ∙ is)))

  -- how many rows there are
  pub rows-length : (t : Table T) (order : List Key) → Stored t order → length (rows_in t order) ≡ length order
  rows-length t [] stored = refl
  rows-length t (k ∷ ks) stored =
      let (v, e) = found-IsLive t k stored.0 in
      rw (rows-cons t k ks v e) (ap suc (rows-length t ks stored.1))

  -- the name of the row at a place
  pub rows-key_at : (t : Table T) (order : List Key) → Stored t order → (place : ℕ)
      → option_map (λ (row : Key × T). row.0) (slice_get (rows_in t order) place) ≡ slice_get order place
  rows-key_at t order stored place =
      sym (slice_get-map (λ (row : Key × T). row.0) (rows_in t order) place) ∙ ap (λ (l : List Key). slice_get l place) (rows-keys t order stored)

  -- so it is where the name was read from the list
  pub rows-named : (t : Table T) (order : List Key) → Stored t order → (place : ℕ) (seen : List Key) (o found : Option Key) → seen ≡ order
      → o ≡ slice_get seen place → o ≡ found → option_map (λ (row : Key × T). row.0) (slice_get (rows_in t order) place) ≡ found
  rows-named t order stored place seen o found same read is =
      rows-key_at t order stored place ∙ ap (λ (l : List Key). slice_get l place) (sym same) ∙ sym read ∙ is

  -- along them births rise
  pub rows-rise : (t : Table T) (order : List Key) → IsOrdered t order → Rises 0 (births (rows_in t order)) t.born
  rows-rise t order good = rw (rows-births t order good.stored) good.rising

  -- the name of the first row whose name passes a test
  pub rows-find : (t : Table T) (order : List Key) → Stored t order → (p : Key → Bool)
      → option_map (λ (row : Key × T). row.0) (find (λ row. p row.0) (rows_in t order)) ≡ find p order
  rows-find t [] stored p = refl
  rows-find t (k ∷ ks) stored p =
      let (v, e) = found-IsLive t k stored.0 in
      rw (rows-cons t k ks v e) (by v (p k) (rows-find t ks stored.1 p))
    where
      by : (v : T) (b : Bool) → option_map (λ (row : Key × T). row.0) (find (λ row. p row.0) (rows_in t ks)) ≡ find p ks
          → option_map (λ (row : Key × T). row.0) (cond b (Some (k, v)) (find (λ row. p row.0) (rows_in t ks))) ≡ cond b (Some k) (find p ks)
      by v true rest = refl
      by v false rest = rest

  pub agrees : (t : Table T) (order : List Key) → Stored t order → (above last : ℕ) → Rises above (births_of order) last → (key : Key)
      → IsLive (rows_in t order) key → Agrees key order
  agrees t [] stored above last rises key live = tt
  agrees t (k ∷ ks) stored above last rises key live =
      let (v, e) = found-IsLive t k stored.0 in
      go v (rw (rows-cons t k ks v e) at live) (eqb k.birth key.birth) refl (agrees t ks stored.1 k.birth last rises.1 key)
    where
      go : (v : T) → IsLive ((k, v) ∷ rows_in t ks) key → (b : Bool) → eqb k.birth key.birth ≡ b → (IsLive (rows_in t ks) key → Agrees key ks)
          → Agrees key (k ∷ ks)
      go v here true is later =
          let i : k.index ≡ key.index = rw is at here in
          let same : k.birth ≡ key.birth = eqb-true k.birth key.birth is in
          ((λ _. i), agrees-above key ks (all-above key.birth k.birth last ks (omega arith) rises.1))
      go v here false is later =
          ((λ (same : k.birth ≡ key.birth). absurd (cc (is, eq-eqb k.birth key.birth same))), later (rw is at here))

  -- a name whose value was written, or which was put, stays live with the others
  pub stored-changed : (t u : Table T) (key : Key) (v w : T) → slots.find t key.index ≡ Some (key.birth, v) → Updates t u key.index (Some (key.birth, w))
      → (order : List Key) → Stored t order → Stored u order
  stored-changed t u key v w found updates [] stored = tt
  stored-changed t u key v w found updates (k ∷ ks) stored =
      let (vk, e) = found-IsLive t k stored.0 in
      (go vk e (eqb k.index key.index) refl, stored-changed t u key v w found updates ks stored.1)
    where
      go : (vk : T) → slots.find t k.index ≡ Some (k.birth, vk) → (b : Bool) → eqb k.index key.index ≡ b → slots.IsLive u k
      go vk e true is =
          let i : k.index ≡ key.index = eqb-true k.index key.index is in
          let both : ◌≡◌ {A = Option (ℕ × T)} (Some (k.birth, vk)) (Some (key.birth, v)) = sym e ∙ ap (λ n. slots.find t n) i ∙ found in
          let births : k.birth ≡ key.birth = same-births k.birth key.birth vk v both in
          rw (i, updates.changed) (sym births)
      go vk e false is =
          let other : k.index ≢ key.index = λ (same : k.index ≡ key.index). cc (is, eq-eqb k.index key.index same) in
          rw (updates.others k.index other, e) refl

  -- after a write under a live name its row alone is changed
  pub rows-changed : (t u : Table T) (key : Key) (v w : T) → slots.find t key.index ≡ Some (key.birth, v) → Updates t u key.index (Some (key.birth, w))
      → (order : List Key) → Stored t order → Agrees key order → rows_in u order ≡ edit key.birth (λ _. w) (rows_in t order)
  rows-changed t u key v w found updates [] stored agree = refl
  rows-changed t u key v w found updates (k ∷ ks) stored agree =
      let (vk, e) = found-IsLive t k stored.0 in
      rw (rows-cons t k ks vk e) (go vk e (eqb k.birth key.birth) refl (rows-changed t u key v w found updates ks stored.1 agree.1))
    where
      go : (vk : T) → slots.find t k.index ≡ Some (k.birth, vk) → (b : Bool) → eqb k.birth key.birth ≡ b → rows_in u ks ≡ edit key.birth (λ _. w) (rows_in t ks)
          → rows_in u (k ∷ ks) ≡ edit key.birth (λ _. w) ((k, vk) ∷ rows_in t ks)
      go vk e true is rest =
          let births : k.birth ≡ key.birth = eqb-true k.birth key.birth is in
          let i : k.index ≡ key.index = agree.0 births in
          let here : slots.find u k.index ≡ Some (k.birth, w) = rw (i, births) updates.changed in
          rw (rows-cons u k ks w here, is) (ap (λ (l : List (Key × T)). (k, w) ∷ l) rest)
      go vk e false is rest =
          let other : k.index ≢ key.index = λ (same : k.index ≡ key.index).
          let both : ◌≡◌ {A = Option (ℕ × T)} (Some (k.birth, vk)) (Some (key.birth, v)) = sym e ∙ ap (λ n. slots.find t n) same ∙ found in
          let births : k.birth ≡ key.birth = same-births k.birth key.birth vk v both in
          cc (is, eq-eqb k.birth key.birth births) in
          rw (rows-cons u k ks vk (updates.others k.index other ∙ e), is) (ap (λ (l : List (Key × T)). (k, vk) ∷ l) rest)

  -- where the index of a new name was empty, the other names have what they had
  pub rows-vacant : (t u : Table T) (index : ℕ) (slot : Option (ℕ × T)) → slots.find t index ≡ None → Updates t u index slot → (order : List Key)
      → Stored t order → rows_in u order ≡ rows_in t order
  rows-vacant t u index slot vacant updates [] stored = refl
  rows-vacant t u index slot vacant updates (k ∷ ks) stored =
      let (v, e) = found-IsLive t k stored.0 in
      let other : k.index ≢ index = λ (same : k.index ≡ index). cc (e, vacant, ap (λ n. slots.find t n) same) in
      rw (rows-cons t k ks v e, rows-cons u k ks v (updates.others k.index other ∙ e))
      (ap (λ (l : List (Key × T)). (k, v) ∷ l) (rows-vacant t u index slot vacant updates ks stored.1))

  pub stored-vacant : (t u : Table T) (index : ℕ) (slot : Option (ℕ × T)) → slots.find t index ≡ None → Updates t u index slot → (order : List Key)
      → Stored t order → Stored u order
  stored-vacant t u index slot vacant updates [] stored = tt
  stored-vacant t u index slot vacant updates (k ∷ ks) stored =
      let (v, e) = found-IsLive t k stored.0 in
      let other : k.index ≢ index = λ (same : k.index ≡ index). cc (e, vacant, ap (λ n. slots.find t n) same) in
      (IsLive-updated_other t u index slot k updates other stored.0, stored-vacant t u index slot vacant updates ks stored.1)

  -- a new name after the others has its row after theirs
  pub rows-added : (t u : Table T) (key : Key) (v : T) → slots.find t key.index ≡ None → Updates t u key.index (Some (key.birth, v)) → (order : List Key)
      → Stored t order → rows_in u (order ++ key ∷ []) ≡ rows_in t order ++ (key, v) ∷ []
  rows-added t u key v vacant updates order stored =
      filter_map-append (λ (k : Key). option_map (λ (e : ℕ × T). (k, e.1)) (slots.find u k.index)) order (key ∷ [])
      ∙ ap₂ (λ (xs ys : List (Key × T)). xs ++ ys) (rows-vacant t u key.index _ vacant updates order stored) (rows-cons u key [] v updates.changed)

  pub stored-added : (t u : Table T) (key : Key) (v : T) → slots.find t key.index ≡ None → Updates t u key.index (Some (key.birth, v)) → (order : List Key)
      → Stored t order → Stored u (order ++ key ∷ [])
  stored-added t u key v vacant updates [] stored = (rw updates.changed refl, tt)
  stored-added t u key v vacant updates (k ∷ ks) stored =
      let all = stored-vacant t u key.index (Some (key.birth, v)) vacant updates (k ∷ ks) stored in
      (all.0, stored-added t u key v vacant updates ks stored.1)

  -- rows of later births stay
  pub edit-above : (n : ℕ) (f : T → T) (above last : ℕ) (rows : List (Key × T)) → n ≤ above → Rises above (births rows) last → edit n f rows ≡ rows
  edit-above n f above last [] le rises = refl
  edit-above n f above last (row ∷ rows) le rises =
      let up : above < row.0.birth = rises.0 in
      let other : eqb row.0.birth n ≡ false = grind arith in
      rw other (ap (λ (l : List (Key × T)). row ∷ l) (edit-above n f row.0.birth last rows (omega arith) rises.1))

  -- the edit of a row by what it then holds
  pub edit-as : (n : ℕ) (f : T → T) (v w : T) (above last : ℕ) (rows : List (Key × T)) → Rises above (births rows) last → object_at rows n ≡ Some v → w ≡ f v
      → edit n (λ _. w) rows ≡ edit n f rows
  edit-as n f v w above last [] rises there is = refl
  edit-as n f v w above last (row ∷ rows) rises there is =
      go (eqb row.0.birth n) refl (edit-as n f v w row.0.birth last rows rises.1)
    where
      go : (b : Bool) → eqb row.0.birth n ≡ b → (object_at rows n ≡ Some v → w ≡ f v → edit n (λ _. w) rows ≡ edit n f rows)
          → edit n (λ _. w) (row ∷ rows) ≡ edit n f (row ∷ rows)
      go true e later =
          let same : row.0.birth ≡ n = eqb-true row.0.birth n e in
          let here : row.1 ≡ v = cc (rw e at there) in
          rw (e, edit-above n (λ _. w) row.0.birth last rows (omega arith) rises.1, edit-above n f row.0.birth last rows (omega arith) rises.1)
          (rw (here, is) refl)
      go false e later = rw e (ap (λ (l : List (Key × T)). row ∷ l) (later (rw e at there) is))

-- where numbers pass a test as far as a place and none passes it from there on, that many pass it at the front
pub point : {X : Type 0} (p : X → Bool) (xs : List X) (i : ℕ) → i ≤ length xs → ((k : ℕ) (d : X) → k < i → p (get_or xs k d) ≡ true)
    → ((k : ℕ) (d : X) → i ≤ k → k < length xs → p (get_or xs k d) ≡ false) → i ≡ front p xs
point p [] i bound passes fails = omega arith
point p (x ∷ xs) zero bound passes fails = rw (fails 0 x (omega arith) (omega arith)) refl
point p (x ∷ xs) (suc i) bound passes fails =
    rw (passes 0 x (omega arith))
    (ap suc (point p xs i (omega arith) (λ k d l. passes (suc k) d (omega arith)) (λ k d l m. fails (suc k) d (omega arith) (omega arith))))

-- what stands where the front ends is the first that does not pass
pub at-end-of-front : {X : Type 0} (p q : X → Bool) → ((x : X) → q x ≡ not (p x)) → (xs : List X) → slice_get xs (front p xs) ≡ find q xs
at-end-of-front p q other [] = refl
at-end-of-front p q other (x ∷ xs) = by (p x) refl (at-end-of-front p q other xs)
  where
    by : (b : Bool) → p x ≡ b → slice_get xs (front p xs) ≡ find q xs → slice_get (x ∷ xs) (front p (x ∷ xs)) ≡ find q (x ∷ xs)
    by true e rest = rw (e, other x, e) rest
    by false e rest = rw (e, other x, e) refl

-- and where the front of the names ends, the first row stands whose name does not pass
pub front-rows : (V : Type 0) (p q : Key → Bool) → ((k : Key) → q k ≡ not (p k)) → (rows : List (Key × V))
    → front p (map (λ (row : Key × V). row.0) rows) ≡ position_or_len (λ (row : Key × V). q row.0) rows
front-rows V p q other [] = refl
front-rows V p q other (row ∷ rows) = by (p row.0) refl (front-rows V p q other rows)
  where
    by : (b : Bool) → p row.0 ≡ b → front p (map (λ (r : Key × V). r.0) rows) ≡ position_or_len (λ (r : Key × V). q r.0) rows
        → front p (map (λ (r : Key × V). r.0) (row ∷ rows)) ≡ position_or_len (λ (r : Key × V). q r.0) (row ∷ rows)
    by true e rest = rw (e, other row.0, e) (ap suc rest ∙ next)
      where
        next : suc (position_or_len (λ (r : Key × V). q r.0) rows) ≡ 1 + position_or_len (λ (r : Key × V). q r.0) rows
        next = omega arith
    by false e rest = rw (e, other row.0, e) refl

-- numbers that rise from above one rise from above a lower one
-- rising numbers end at or above where they begin
pub rises-up : (above last : ℕ) (ns : List ℕ) → Rises above ns last → above ≤ last
rises-up above last [] rises = rises
rises-up above last (n ∷ ns) rises =
    let up : above < n = rises.0 in
    let rest = rises-up n last ns rises.1 in
    omega arith

pub rises-lower : (low above last : ℕ) (ns : List ℕ) → low ≤ above → Rises above ns last → Rises low ns last
rises-lower low above last [] le rises = omega arith
rises-lower low above last (n ∷ ns) le rises = let up : above < n = rises.0 in (omega arith, rises.1)

-- a new highest birth goes after
pub rises-added : (above last : ℕ) (key : Key) (order : List Key) → key.birth ≡ last + 1 → Rises above (births_of order) last
    → Rises above (births_of (order ++ key ∷ [])) (last + 1)
rises-added above last key [] is rises = (omega arith, omega arith)
rises-added above last key (k ∷ ks) is rises = (rises.0, rises-added k.birth last key ks is rises.1)

module _ {T : Type 0} where
  -- a live name has a birth above where its rows begin
  pub live-above : (t : Table T) (order : List Key) → Stored t order → (above last : ℕ) → Rises above (births_of order) last → (key : Key)
      → IsLive (rows_in t order) key → above < key.birth
  live-above t [] stored above last rises key live = absurd live
  live-above t (k ∷ ks) stored above last rises key live =
      let (v, e) = found-IsLive t k stored.0 in
      go v (rw (rows-cons t k ks v e) at live) (eqb k.birth key.birth) refl (live-above t ks stored.1 k.birth last rises.1 key)
    where
      go : (v : T) → IsLive ((k, v) ∷ rows_in t ks) key → (b : Bool) → eqb k.birth key.birth ≡ b → (IsLive (rows_in t ks) key → k.birth < key.birth)
          → above < key.birth
      go v here true is later =
          let same : k.birth ≡ key.birth = eqb-true k.birth key.birth is in
          let up : above < k.birth = rises.0 in
          omega arith
      go v here false is later =
          let up : above < k.birth = rises.0 in
          let more : k.birth < key.birth = later (rw is at here) in
          omega arith

  -- two that are there have different places, where their births differ
  pub other-index : (t : Table T) (key k : Key) (v w : T) → slots.find t key.index ≡ Some (key.birth, v) → slots.find t k.index ≡ Some (k.birth, w)
      → key.birth < k.birth → k.index ≢ key.index
  other-index t key k v w found e up = λ (same : k.index ≡ key.index).
      let differs : eqb k.birth key.birth ≡ false = grind arith in
      let births : k.birth ≡ key.birth = same-births k.birth key.birth w v (sym e ∙ ap (λ n. slots.find t n) same ∙ found) in
      cc (differs, eq-eqb k.birth key.birth births)

  -- the names after one that is taken out keep what they had
  after : (t u : Table T) (key : Key) (v : T) → slots.find t key.index ≡ Some (key.birth, v) → Updates t u key.index None → (order : List Key) → Stored t order
      → AllByRecursion (λ (k : Key). key.birth < k.birth) order → (rows_in u order ≡ without key.birth (rows_in t order)) × Stored u order
  after t u key v found updates [] stored above = (refl, tt)
  after t u key v found updates (k ∷ ks) stored above =
      let (vk, e) = found-IsLive t k stored.0 in
      let up : key.birth < k.birth = above.0 in
      let differs : eqb k.birth key.birth ≡ false = grind arith in
      let other : k.index ≢ key.index = other-index t key k v vk found e up in
      let rest = after t u key v found updates ks stored.1 above.1 in (
        rw (rows-cons t k ks vk e, rows-cons u k ks vk (updates.others k.index other ∙ e), differs) (ap (λ (l : List (Key × T)). (k, vk) ∷ l) rest.0),
        (IsLive-updated_other t u key.index None k updates other stored.0, rest.1),
      )

  -- a name taken out of the table and of the list
  pub record Taken (t u : Table T) (key : Key) (order left : List Key) (above last : ℕ) : Type 0 where
    pub rows : rows_in u left ≡ without key.birth (rows_in t order)
    pub stored : Stored u left
    pub rising : Rises above (births_of left) last

  pub taken : (t u : Table T) (key : Key) (v : T) → slots.find t key.index ≡ Some (key.birth, v) → Updates t u key.index None → (order : List Key)
      → Stored t order → (above last : ℕ) → Rises above (births_of order) last → IsLive (rows_in t order) key
      → Taken t u key order (remove order (front (λ k. nat_lt k.birth key.birth) order)) above last
  taken t u key v found updates [] stored above last rises live = absurd live
  taken t u key v found updates (k ∷ ks) stored above last rises live =
      let (vk, e) = found-IsLive t k stored.0 in
      go vk e (rw (rows-cons t k ks vk e) at live) (eqb k.birth key.birth) refl (taken t u key v found updates ks stored.1 k.birth last rises.1)
    where
      go : (vk : T) → slots.find t k.index ≡ Some (k.birth, vk) → IsLive ((k, vk) ∷ rows_in t ks) key → (b : Bool) → eqb k.birth key.birth ≡ b
          → (IsLive (rows_in t ks) key → Taken t u key ks (remove ks (front (λ x. nat_lt x.birth key.birth) ks)) k.birth last)
          → Taken t u key (k ∷ ks) (remove (k ∷ ks) (front (λ x. nat_lt x.birth key.birth) (k ∷ ks))) above last
      go vk e here true is later =
          let same : k.birth ≡ key.birth = eqb-true k.birth key.birth is in
          let up : above < k.birth = rises.0 in
          let stays : nat_lt k.birth key.birth ≡ false = grind (arith, nat_tests) in
          let rest = after t u key v found updates ks stored.1 (all-above key.birth k.birth last ks (omega arith) rises.1) in
          rw stays (record {
            rows = rw (rows-cons t k ks vk e, is) rest.0;
            stored = rest.1;
            rising = rises-lower above k.birth last (births_of ks) (omega arith) rises.1;
          })
      go vk e here false is later =
          let live' = rw is at here in
          let more : k.birth < key.birth = live-above t ks stored.1 k.birth last rises.1 key live' in
          let goes : nat_lt k.birth key.birth ≡ true = grind (arith, nat_tests) in
          let other : k.index ≢ key.index = λ (same : k.index ≡ key.index).
          let births : k.birth ≡ key.birth = same-births k.birth key.birth vk v (sym e ∙ ap (λ n. slots.find t n) same ∙ found) in
          cc (is, eq-eqb k.birth key.birth births) in
          let rest = later live' in
          let left = remove ks (front (λ (x : Key). nat_lt x.birth key.birth) ks) in
          rw goes (record {
            rows =
                rw (rows-cons t k ks vk e, is, rows-cons u k left vk (updates.others k.index other ∙ e)) (ap (λ (l : List (Key × T)). (k, vk) ∷ l) rest.rows);
            stored = (IsLive-updated_other t u key.index None k updates other stored.0, rest.stored);
            rising = (rises.0, rest.rising);
          })

  -- a new name put into the table and after the list
  pub record Added (t u : Table T) (key : Key) (v : T) (order left : List Key) : Type 0 where
    pub good : IsOrdered u left
    pub birth : key.birth ≡ t.born + 1
    pub born : u.born ≡ t.born + 1
    pub rows : rows_in u left ≡ rows_in t order ++ (key, v) ∷ []

  pub added : (t r u : Table T) (key : Key) (v : T) (order left : List Key) → IsOrdered t order → r ≡ record t { capacity = r.capacity }
      → key.birth ≡ r.born + 1 → slots.find r key.index ≡ None → Updates r u key.index (Some (key.birth, v)) → u.born ≡ key.birth → left ≡ order ++ key ∷ []
      → slots.live_count u ≡ slots.live_count r + 1 → Added t u key v order left
  added t r u key v order left good kept birth vacant updates born is count =
      let stored : Stored r order = subst (λ (x : Table T). Stored x order) (sym kept) good.stored in
      let same : rows_in r order ≡ rows_in t order = ap (λ (x : Table T). rows_in x order) kept in
      let same_born : r.born ≡ t.born = ap (λ (x : Table T). x.born) kept in
      rw is (record {
        good = record {
          stored = stored-added r u key v vacant updates order stored;
          rising = subst (λ n. Rises 0 (births_of (order ++ key ∷ [])) n) (sym (born ∙ birth ∙ ap (λ n. n + 1) same_born))
              (rises-added 0 t.born key order (birth ∙ ap (λ n. n + 1) same_born) good.rising);
          all = count ∙ ap (λ (x : Table T). slots.live_count x + 1) kept ∙ ap (λ n. n + 1) good.all ∙ sym (length_push order key);
        };
        birth = birth ∙ ap (λ n. n + 1) same_born;
        born = born ∙ birth ∙ ap (λ n. n + 1) same_born;
        rows = rows-added r u key v vacant updates order stored ∙ ap (λ (l : List (Key × T)). l ++ (key, v) ∷ []) same;
      })

-- along rising births a later name has no lower birth
rises-member : (order : List Key) (above last : ℕ) → Rises above (births_of order) last → (j : ℕ) (d : Key) → j < length order
    → above < (get_or order j d).birth
rises-member [] above last rises j d below = absurd (omega arith)
rises-member (k ∷ ks) above last rises zero d below = rises.0
rises-member (k ∷ ks) above last rises (suc j) d below =
    let up : above < k.birth = rises.0 in
    let more : k.birth < (get_or ks j d).birth = rises-member ks k.birth last rises.1 j d (omega arith) in
    omega arith

pub rises-in_order : (order : List Key) (above last : ℕ) → Rises above (births_of order) last → (i j : ℕ) (d : Key) → i ≤ j → j < length order
    → (get_or order i d).birth ≤ (get_or order j d).birth
rises-in_order [] above last rises i j d le below = absurd (omega arith)
rises-in_order (k ∷ ks) above last rises zero zero d le below = omega arith
rises-in_order (k ∷ ks) above last rises zero (suc j) d le below =
    let more : k.birth < (get_or ks j d).birth = rises-member ks k.birth last rises.1 j d (omega arith) in omega arith
rises-in_order (k ∷ ks) above last rises (suc i) zero d le below = absurd (omega arith)
rises-in_order (k ∷ ks) above last rises (suc i) (suc j) d le below = rises-in_order ks k.birth last rises.1 i j d (omega arith) (omega arith)

module _ {T : Type 0} where
  -- the names below a live one end within the list
  pub front-within : (t : Table T) (order : List Key) → Stored t order → (key : Key) → IsLive (rows_in t order) key
      → front (λ (k : Key). nat_lt k.birth key.birth) order < length order
  front-within t [] stored key live = absurd live
  front-within t (k ∷ ks) stored key live =
      let (v, e) = found-IsLive t k stored.0 in
      go v (rw (rows-cons t k ks v e) at live) (nat_lt k.birth key.birth) refl (eqb k.birth key.birth) refl (front-within t ks stored.1 key)
    where
      go : (v : T) → IsLive ((k, v) ∷ rows_in t ks) key → (b : Bool) → nat_lt k.birth key.birth ≡ b → (e : Bool) → eqb k.birth key.birth ≡ e
          → (IsLive (rows_in t ks) key → front (λ (x : Key). nat_lt x.birth key.birth) ks < length ks)
          → front (λ (x : Key). nat_lt x.birth key.birth) (k ∷ ks) < length (k ∷ ks)
      go v here false lt e eq later = rw lt (omega arith)
      go v here true lt true eq later = absurd (let same : k.birth ≡ key.birth = eqb-true k.birth key.birth eq in grind (arith, nat_tests))
      go v here true lt false eq later = let more = later (rw eq at here) in rw lt (omega arith)

-- at or above is not below
pub not-below : (n m : ℕ) → leb n m ≡ not (nat_lt m n)
not-below n m = go (nat_lt m n) refl
  where
    go : (b : Bool) → nat_lt m n ≡ b → leb n m ≡ not b
    go true e = grind (arith, nat_tests)
    go false e = grind (arith, nat_tests)
