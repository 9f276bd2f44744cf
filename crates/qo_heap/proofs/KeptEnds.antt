-- What is kept of objects, where one is made and where one ends.
use Rattle.std.proofs.Common.{◌≡◌, refl, ap, sym, ◌∙◌, ℕ, ◌<◌, ◌≤◌, Bool, true, false, eqb, nat_lt, List, [], ◌∷◌, ◌++◌, map, length, sum_by, Option, Some, None, option_map, IsSomeAnd, arith}
use Rattle.std.specs.List.{AllByRecursion}
use Rattle.std.proofs.lemmas.Bool.{eqb-true}
use Rattle.std.proofs.lemmas.List.Sums.{sum_by-append, sum_by-cons}
use Rattle.qo_values.proofs.ListLemmas.{all-imply}
use Rattle.qo_values.specs.declared.kinds.TypeId.{TypeId}
use Rattle.qo_slots.specs.declared.keys.Key.{Key}
use Rattle.qo_object.specs.declared.slots.Slot.TheVariants.{Plain, Child, Link, Alias}
use Rattle.qo_object.specs.Slots.{Named, forgotten_in}
use Rattle.qo_object.specs.Content.{Content, forgotten, fresh, holding, is_parent, reference_count}
use Rattle.qo_heap.specs.Rows.{IsLive, Rises, births, object_at, row_at, without}
use Rattle.qo_heap.specs.Keeping.{IsCounted, IsKept, IsShort, children, entry_forgets, holders, holds_in, owners, parent_in, plain, unheld}
use Rattle.qo_heap.specs.Objects.{AreLinked, forgets, targets}
use Rattle.qo_heap.specs.declared.entries.Entry.{Entry}
use Rattle.qo_heap.proofs.BookLemmas.{sum-ended}
use Rattle.qo_heap.proofs.HeapLemmas.{targets_in}
use Rattle.qo_heap.proofs.HoldLemmas.{bare-holds, child_of_birth, child-within, children-weigh, each-length, forgotten-holds, holding-weighs, of_birth, weigh-cons}
use Rattle.qo_heap.proofs.KeepingLemmas.{all-left, kept-as, plain-added, plain-left}
use Rattle.qo_heap.proofs.ParentLemmas.{none-owns, parent-left, parent-more}
use Rattle.qo_heap.proofs.ReferenceLemmas.{parent-counted}
use Rattle.qo_heap.proofs.RowsLemmas.{rises-up}

-- an object that is not there no slot holds

none-live : (rows : List (Key × Content)) (key : Key) → IsLive rows key → object_at rows key.birth ≡ None → ⊥
none-live rows key live gone = go (row_at rows key.birth) live gone
  where
    go : (o : Option (Key × Content)) → IsSomeAnd o (λ row. row.0.index ≡ key.index) → option_map (λ (row : Key × Content). row.1) o ≡ None → ⊥
    go None none gone = none
    go (Some row) some gone = cc

module _ (by : List (Key × Content)) (n : ℕ) (gone : object_at by n ≡ None) where
  not-live : (key : Key) → IsLive by key → eqb key.birth n ≡ false
  not-live key live = go (eqb key.birth n) refl
    where
      go : (b : Bool) → eqb key.birth n ≡ b → eqb key.birth n ≡ false
      go true is = absurd (let same : key.birth ≡ n = eqb-true key.birth n is in none-live by key live (ap (object_at by) same ∙ gone))
      go false is = is

  live-holds : (slots : List Named) → AllByRecursion (IsLive by) (targets_in slots) → sum_by (of_birth n) (holds_in slots) ≡ 0
  live-holds [] all = refl
  live-holds ((name, Plain val) ∷ slots) all = live-holds slots all
  live-holds ((name, Alias key of) ∷ slots) all = live-holds slots all
  live-holds ((name, Child key) ∷ slots) all =
      let none : of_birth n (record { key = key; child = true }) ≡ 0 = rw (not-live key all.0) refl in
      omega (arith, none, live-holds slots all.1, weigh-cons (of_birth n) (Some (record { key = key; child = true })) (holds_in slots))
  live-holds ((name, Link ty true None) ∷ slots) all = live-holds slots all
  live-holds ((name, Link ty true (Some key)) ∷ slots) all =
      let none : of_birth n (record { key = key; child = false }) ≡ 0 = rw (not-live key all.0) refl in
      omega (arith, none, live-holds slots all.1, weigh-cons (of_birth n) (Some (record { key = key; child = false })) (holds_in slots))
  live-holds ((name, Link ty false None) ∷ slots) all = live-holds slots all
  live-holds ((name, Link ty false (Some key)) ∷ slots) all = live-holds slots all.1

  pub not-held : (rows : List (Key × Content)) → AllByRecursion (λ (row : Key × Content). AllByRecursion (IsLive by) (targets row.1)) rows → holders n rows ≡ 0
  not-held [] linked = refl
  not-held (row ∷ rows) linked =
      omega (
        arith,
        holding-weighs n row.1.slots,
        live-holds row.1.slots linked.0,
        not-held rows linked.1,
        sum_by-cons (λ (r : Key × Content). holding n r.1) row rows,
      )

-- who is a child is held
owners-within : (x : ℕ) (rows : List (Key × Content)) → owners x rows ≤ holders x rows
owners-within x [] = omega arith
owners-within x (row ∷ rows) =
    omega (
      arith,
      owners-within x rows,
      holding-weighs x row.1.slots,
      children-weigh x row.1.slots,
      child-within x (holds_in row.1.slots),
      sum_by-cons (λ (r : Key × Content). holding x r.1) row rows,
      sum_by-cons (λ (r : Key × Content). children x r.1) row rows,
    )

pub not-owned : (x : ℕ) (rows : List (Key × Content)) → holders x rows ≡ 0 → parent_in rows x ≡ None
not-owned x rows none = none-owns x rows (omega (arith, none, owners-within x rows))

pub gone-parent : (rows : List (Key × Content)) → AreLinked rows → (n : ℕ) → object_at rows n ≡ None → parent_in rows n ≡ None
gone-parent rows linked n gone = not-owned n rows (not-held rows n gone rows linked)

-- an object is made

pub unborn : (n above last : ℕ) (rows : List (Key × Content)) → last < n → Rises above (births rows) last → object_at rows n ≡ None
unborn n above last [] high rises = refl
unborn n above last (row ∷ rows) high rises =
    let up : row.0.birth ≤ last = rises-up row.0.birth last (births rows) rises.1 in
    let other : eqb row.0.birth n ≡ false = grind arith in
    rw other (unborn n row.0.birth last rows high rises.1)

all-added : {X : Type 0} (P : X → Type 0) (xs : List X) (x : X) → AllByRecursion P xs → P x → AllByRecursion P (xs ++ x ∷ [])
all-added P [] x all here = (here, tt)
all-added P (y ∷ xs) x all here = (all.0, all-added P xs x all.1 here)

pub kept-made : (rows : List (Key × Entry)) → IsKept rows → AreLinked (plain rows) → (key : Key) (kind : TypeId) → object_at (plain rows) key.birth ≡ None
    → IsKept (rows ++ (key, unheld (fresh kind)) ∷ [])
kept-made rows kept linked key kind new =
    kept-as (rows ++ (key, unheld (fresh kind)) ∷ []) more (plain-added rows (key, unheld (fresh kind))) (λ x. omega (arith, owners-same x, kept.once x))
    (all-added IsShort (plain rows) (key, fresh kind) kept.short (let few : 0 ≤ 4294967296 = omega arith in few))
    (all-added (IsCounted more) rows (key, unheld (fresh kind)) (all-imply (IsCounted (plain rows)) (IsCounted more) step rows kept.counts) (record {
      held = omega (arith, holders-same key.birth, not-held (plain rows) key.birth new (plain rows) linked);
      parent = sym (parent-more key.birth (plain rows) (key, fresh kind) refl ∙ gone-parent (plain rows) linked key.birth new);
    }))
  where
    more : List (Key × Content)
    more = plain rows ++ (key, fresh kind) ∷ []

    holders-same : (x : ℕ) → holders x more ≡ holders x (plain rows)
    holders-same x = omega (
      arith,
      sum_by-append (λ (r : Key × Content). holding x r.1) (plain rows) ((key, fresh kind) ∷ []),
      sum_by-cons (λ (r : Key × Content). holding x r.1) (key, fresh kind) [],
    )

    owners-same : (x : ℕ) → owners x more ≡ owners x (plain rows)
    owners-same x = omega (
      arith,
      sum_by-append (λ (r : Key × Content). children x r.1) (plain rows) ((key, fresh kind) ∷ []),
      sum_by-cons (λ (r : Key × Content). children x r.1) (key, fresh kind) [],
    )

    step : (row : Key × Entry) → IsCounted (plain rows) row → IsCounted more row
    step row counted = record {
      held = counted.held ∙ sym (holders-same row.0.birth);
      parent = counted.parent ∙ sym (parent-more row.0.birth (plain rows) (key, fresh kind) refl);
    }

-- an object that holds nothing ends

others-differ : (n above last : ℕ) (c : Content) (rows : List (Key × Content)) → n ≤ above → Rises above (births rows) last
    → AllByRecursion (λ (row : Key × Content). eqb row.0.birth n ≡ true → row.1 ≡ c) rows
others-differ n above last c [] le rises = tt
others-differ n above last c (row ∷ rows) le rises =
    let up : above < row.0.birth = rises.0 in
    let other : eqb row.0.birth n ≡ false = grind arith in
    ((λ is. absurd (cc (other, is))), others-differ n row.0.birth last c rows (omega arith) rises.1)

pub only-one : (n above last : ℕ) (c : Content) (rows : List (Key × Content)) → Rises above (births rows) last → object_at rows n ≡ Some c
    → AllByRecursion (λ (row : Key × Content). eqb row.0.birth n ≡ true → row.1 ≡ c) rows
only-one n above last c [] rises there = tt
only-one n above last c (row ∷ rows) rises there = go (eqb row.0.birth n) refl (only-one n row.0.birth last c rows rises.1)
  where
    go : (b : Bool) → eqb row.0.birth n ≡ b
        → (object_at rows n ≡ Some c → AllByRecursion (λ (r : Key × Content). eqb r.0.birth n ≡ true → r.1 ≡ c) rows)
        → AllByRecursion (λ (r : Key × Content). eqb r.0.birth n ≡ true → r.1 ≡ c) (row ∷ rows)
    go true is rest =
        let low : row.0.birth ≡ n = eqb-true row.0.birth n is in
        let here : row.1 ≡ c = cc (rw is at there) in
        ((λ _. here), others-differ n row.0.birth last c rows (omega arith) rises.1)
    go false is rest = ((λ same. absurd (cc (is, same))), rest (rw is at there))

module _ (rows : List (Key × Entry)) (last n : ℕ) (kept : IsKept rows) (rises : Rises 0 (births (plain rows)) last) (c : Content)
    (there : object_at (plain rows) n ≡ Some c) (bare : reference_count c ≡ 0) where
  abbrev left : List (Key × Content)
  left = map (forgets n) (without n (plain rows))

  nothing : holds_in c.slots ≡ []
  nothing = bare-holds c.slots bare

  holders-left : (x : ℕ) → holders x left ≡ holders x (plain rows)
  holders-left x =
      let none : holding x c ≡ 0 = holding-weighs x c.slots ∙ ap (sum_by (of_birth x)) nothing in
      let sums = sum-ended (λ (row : Key × Content). holding x row.1) n same 0 last (plain rows) rises c there (λ key. refl) in
      omega (arith, none, sums)
    where
      same : (row : Key × Content) → holding x (forgotten n row.1) ≡ holding x row.1
      same row = holding-weighs x (forgotten n row.1).slots ∙ ap (sum_by (of_birth x)) (forgotten-holds n row.1) ∙ sym (holding-weighs x row.1.slots)

  no-children : (x : ℕ) → children x c ≡ 0
  no-children x = children-weigh x c.slots ∙ ap (sum_by (child_of_birth x)) nothing

  owners-left : (x : ℕ) → owners x left ≡ owners x (plain rows)
  owners-left x =
      let sums = sum-ended (λ (row : Key × Content). children x row.1) n same 0 last (plain rows) rises c there (λ key. refl) in
      omega (arith, no-children x, sums)
    where
      same : (row : Key × Content) → children x (forgotten n row.1) ≡ children x row.1
      same row = children-weigh x (forgotten n row.1).slots ∙ ap (sum_by (child_of_birth x)) (forgotten-holds n row.1) ∙ sym (children-weigh x row.1.slots)

  parents-left : (x : ℕ) → parent_in left x ≡ parent_in (plain rows) x
  parents-left x =
      parent-left x n (plain rows)
      (all-imply (λ (row : Key × Content). eqb row.0.birth n ≡ true → row.1 ≡ c) (λ (row : Key × Content). eqb row.0.birth n ≡ true → is_parent x row.1 ≡ false)
      (λ row own is. ap (is_parent x) (own is) ∙ parent-counted x c ∙ ap (nat_lt 0) (no-children x))
      (plain rows) (only-one n 0 last c (plain rows) rises there))

  pub kept-ended : IsKept (map (entry_forgets n) (without n rows))
  kept-ended =
      kept-as (map (entry_forgets n) (without n rows)) left (plain-left n rows) (λ x. omega (arith, owners-left x, kept.once x))
      (all-left IsShort IsShort n (forgets n) shorter (plain rows) kept.short)
      (all-left (IsCounted (plain rows)) (IsCounted left) n (entry_forgets n) step rows kept.counts)
    where
      shorter : (row : Key × Content) → IsShort row → IsShort (forgets n row)
      shorter row short =
          let few : length row.1.slots ≤ 4294967296 = short in
          let same : length (forgotten n row.1).slots ≤ 4294967296 = omega (arith, few, each-length (forgotten_in n) row.1.slots) in
          same

      step : (row : Key × Entry) → IsCounted (plain rows) row → IsCounted left (entry_forgets n row)
      step row counted = record {
        held = counted.held ∙ sym (holders-left row.0.birth);
        parent = counted.parent ∙ sym (parents-left row.0.birth);
      }
