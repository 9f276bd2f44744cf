-- The clocks that go by a clock are found one after the other among those that have a weak link to it.
use Rattle.std.proofs.Common.{◌≡◌, refl, ap, sym, subst, ◌∙◌, ℕ, ◌<◌, ◌≤◌, Bool, true, false, ◌&&◌, ◌||◌, cond, eqb, nat_lt, List, [], ◌∷◌, filter, find, Option, Some, None, option_map, codes, arith}
use Rattle.std.specs.Prelude.{option_and_then}
use Rattle.std.specs.List.{AllByRecursion, list_any}
use Rattle.std.specs.Option.{option_map_or}
use Rattle.std.specs.Str.{bytes_eq}
use Rattle.std.proofs.lemmas.Bool.{eq-eqb, or_left, or_right}
use Rattle.std.proofs.lemmas.Bool.Decides.{nat_tests}
use Rattle.std.proofs.lemmas.Option.{same_Some}
use Rattle.qo_values.proofs.ListLemmas.{all-imply}
use Rattle.qo_slots.specs.declared.keys.Key.{Key}
use Rattle.qo_object.specs.declared.slots.Slot.{Slot}
use Rattle.qo_object.specs.declared.slots.Slot.TheVariants.{Plain, Child, Link, Alias}
use Rattle.qo_object.specs.Slots.{Named, names_weakly}
use Rattle.qo_object.specs.Content.{Content}
use Rattle.qo_heap.specs.Objects.{IsHeap, Objects, content_of}
use Rattle.qo_heap.specs.Rows.{IsLive, Rises, births, object_at}
use Rattle.qo_heap.specs.WeakEnds.{is_weak_owner, weak_owner_above}
use Rattle.qo_heap.proofs.RowsLemmas.{rises-up}
use Rattle.qo_clocks.specs.Reads.{weak_target}
use Rattle.qo_clocks.specs.Subtree.{IsNextFed, fed_above, fed_on, goes_by}

abbrev Rows : Type 0
Rows = List (Key × Content)

-- who goes by a clock has a weak link to it

target-named : (c : ℕ) (s : Slot) → option_map_or (λ (k : Key). eqb k.birth c) (weak_target s) false ≡ true → names_weakly c s ≡ true
target-named c (Plain v) e = cc
target-named c (Child k) e = cc
target-named c (Link ty true target) e = cc
target-named c (Link ty false None) e = cc
target-named c (Link ty false (Some k)) e = e
target-named c (Alias k name) e = cc

found-named : (c : ℕ) (p : Named → Bool) (slots : List Named)
    → option_map_or (λ (k : Key). eqb k.birth c) (option_and_then weak_target (option_map (λ (s : Named). s.1) (find p slots))) false ≡ true
    → list_any (λ (s : Named). names_weakly c s.1) slots ≡ true
found-named c p [] e = cc
found-named c p (s ∷ slots) e = go (p s) refl (found-named c p slots)
  where
    go : (t : Bool) → p s ≡ t
        → (option_map_or (λ (k : Key). eqb k.birth c) (option_and_then weak_target (option_map (λ (x : Named). x.1) (find p slots))) false ≡ true
        → list_any (λ (x : Named). names_weakly c x.1) slots ≡ true)
        → (names_weakly c s.1 || list_any (λ (x : Named). names_weakly c x.1) slots) ≡ true
    go true q more = or_left (names_weakly c s.1) (list_any (λ (x : Named). names_weakly c x.1) slots) (target-named c s.1 (rw q at e))
    go false q more = or_right (names_weakly c s.1) (list_any (λ (x : Named). names_weakly c x.1) slots) (more (rw q at e))

goes-owner : (v : Objects) (c n : ℕ) → goes_by v c n ≡ true → option_map_or (is_weak_owner c) (content_of v n) false ≡ true
goes-owner v c n e = go (content_of v n) e
  where
    go : (o : Option Content)
        → option_map_or (λ (k : Key). eqb k.birth c)
        (option_and_then weak_target (option_map (λ (s : Named). s.1)
        (find (λ (s : Named). bytes_eq (codes "source") s.0) (option_map_or (λ (d : Content). d.slots) o [])))) false ≡ true
        → option_map_or (is_weak_owner c) o false ≡ true
    go None q = cc
    go (Some d) q = found-named c (λ (s : Named). bytes_eq (codes "source") s.0) d.slots q

-- each row is the object of its birth

later-rows : (first : Key × Content) (rows : Rows) (low last : ℕ) (suffix : Rows) → first.0.birth ≤ low → Rises low (births suffix) last
    → AllByRecursion (λ (row : Key × Content). object_at rows row.0.birth ≡ Some row.1) suffix
    → AllByRecursion (λ (row : Key × Content). object_at (first ∷ rows) row.0.birth ≡ Some row.1) suffix
later-rows first rows low last [] le rises all = tt
later-rows first rows low last (row ∷ suffix) le rises all =
    let up : low < row.0.birth = rises.0 in
    let other : eqb first.0.birth row.0.birth ≡ false = grind arith in
    (rw other all.0, later-rows first rows row.0.birth last suffix (omega arith) rises.1 all.1)

each-row : (low last : ℕ) (rows : Rows) → Rises low (births rows) last → AllByRecursion (λ (row : Key × Content). object_at rows row.0.birth ≡ Some row.1) rows
each-row low last [] rises = tt
each-row low last (row ∷ rows) rises =
    let here : eqb row.0.birth row.0.birth ≡ true = eq-eqb row.0.birth row.0.birth refl in
    (rw here refl, later-rows row rows row.0.birth last rows (omega arith) rises.1 (each-row row.0.birth last rows rises.1))

all-owners : (v : Objects) → IsHeap v → (c : ℕ) → AllByRecursion (λ (row : Key × Content). goes_by v c row.0.birth ≡ true → is_weak_owner c row.1 ≡ true) v.rows
all-owners v good c =
    all-imply (λ (row : Key × Content). object_at v.rows row.0.birth ≡ Some row.1)
    (λ (row : Key × Content). goes_by v c row.0.birth ≡ true → is_weak_owner c row.1 ≡ true)
    (λ row there e. sym (ap (λ (o : Option Content). option_map_or (is_weak_owner c) o false) there) ∙ goes-owner v c row.0.birth e) v.rows
    (each-row 0 v.born v.rows good.rising)

-- the first above a number that passes one test, where all that pass another pass this one

module _ (q : ℕ → Bool) (p : Content → Bool) where
  abbrev first_above : ℕ → Rows → Option Key
  first_above above rows = option_map (λ (row : Key × Content). row.0) (find (λ (row : Key × Content). nat_lt above row.0.birth && p row.1) rows)

  abbrev all_above : ℕ → Rows → List ℕ
  all_above above rows = filter (λ (n : ℕ). nat_lt above n && q n) (births rows)

  abbrev Implied : Rows → Type 0
  Implied rows = AllByRecursion (λ (row : Key × Content). q row.0.birth ≡ true → p row.1 ≡ true) rows

  none-above : (above : ℕ) (rows : Rows) → Implied rows → first_above above rows ≡ None → all_above above rows ≡ []
  none-above above [] all e = refl
  none-above above (row ∷ rows) all e = go (nat_lt above row.0.birth) refl (p row.1) refl (q row.0.birth) refl (none-above above rows all.1)
    where
      go : (s : Bool) → nat_lt above row.0.birth ≡ s → (t : Bool) → p row.1 ≡ t → (u : Bool) → q row.0.birth ≡ u
          → (first_above above rows ≡ None → all_above above rows ≡ []) → all_above above (row ∷ rows) ≡ []
      go false is t at u has rest = rw is (rest (rw is at e))
      go true is true at u has rest = absurd (let clash : Some row.0 ≡ None = rw (is, at) at e in cc)
      go true is false at true has rest = absurd (cc (all.0 has, at))
      go true is false at false has rest = rw (is, has) (rest (rw (is, at) at e))

  same-above : (a b low last : ℕ) (rows : Rows) → a ≤ low → b ≤ low → Rises low (births rows) last → all_above a rows ≡ all_above b rows
  same-above a b low last [] le under rises = refl
  same-above a b low last (row ∷ rows) le under rises =
      let up : low < row.0.birth = rises.0 in
      let one : nat_lt a row.0.birth ≡ true = grind (arith, nat_tests) in
      let two : nat_lt b row.0.birth ≡ true = grind (arith, nat_tests) in
      rw (one, two) (go (q row.0.birth) (same-above a b row.0.birth last rows (omega arith) (omega arith) rises.1))
    where
      go : (t : Bool) → all_above a rows ≡ all_above b rows
          → cond t (row.0.birth ∷ all_above a rows) (all_above a rows) ≡ cond t (row.0.birth ∷ all_above b rows) (all_above b rows)
      go true rest = ap (λ (l : List ℕ). row.0.birth ∷ l) rest
      go false rest = rest

  -- what is found is above the number, is there, and is within the births
  first-high : (above : ℕ) (rows : Rows) (k : Key) → first_above above rows ≡ Some k → nat_lt above k.birth ≡ true
  first-high above [] k e = cc
  first-high above (row ∷ rows) k e = go (nat_lt above row.0.birth) refl (p row.1) refl (first-high above rows k)
    where
      go : (s : Bool) → nat_lt above row.0.birth ≡ s → (t : Bool) → p row.1 ≡ t → (first_above above rows ≡ Some k → nat_lt above k.birth ≡ true)
          → nat_lt above k.birth ≡ true
      go false is t at rest = rest (rw is at e)
      go true is false at rest = rest (rw (is, at) at e)
      go true is true at rest =
          let same : row.0 ≡ k = same_Some row.0 k (rw (is, at) at e) in
          ap (λ (x : Key). nat_lt above x.birth) (sym same) ∙ is

  first-within : (above low last : ℕ) (rows : Rows) (k : Key) → Rises low (births rows) last → first_above above rows ≡ Some k
      → (low < k.birth) × (k.birth ≤ last)
  first-within above low last [] k rises e = cc
  first-within above low last (row ∷ rows) k rises e =
      go (nat_lt above row.0.birth) refl (p row.1) refl (λ r. deeper (first-within above row.0.birth last rows k rises.1 r))
    where
      deeper : (row.0.birth < k.birth) × (k.birth ≤ last) → (low < k.birth) × (k.birth ≤ last)
      deeper both = let far : row.0.birth < k.birth = both.0 in let up : low < row.0.birth = rises.0 in (omega arith, both.1)

      go : (s : Bool) → nat_lt above row.0.birth ≡ s → (t : Bool) → p row.1 ≡ t → (first_above above rows ≡ Some k → (low < k.birth) × (k.birth ≤ last))
          → (low < k.birth) × (k.birth ≤ last)
      go false is t at rest = rest (rw is at e)
      go true is false at rest = rest (rw (is, at) at e)
      go true is true at rest =
          let same : row.0 ≡ k = same_Some row.0 k (rw (is, at) at e) in
          let up : row.0.birth ≤ last = rises-up row.0.birth last (births rows) rises.1 in
          subst (λ (x : Key). (low < x.birth) × (x.birth ≤ last)) same (rises.0, up)

  first-live : (above low last : ℕ) (rows : Rows) (k : Key) → Rises low (births rows) last → first_above above rows ≡ Some k → IsLive rows k
  first-live above low last [] k rises e = cc
  first-live above low last (row ∷ rows) k rises e =
      go (nat_lt above row.0.birth) refl (p row.1) refl (first-live above row.0.birth last rows k rises.1)
    where
      later : (first_above above rows ≡ Some k → IsLive rows k) → first_above above rows ≡ Some k → IsLive (row ∷ rows) k
      later rest r =
          let far : row.0.birth < k.birth = (first-within above row.0.birth last rows k rises.1 r).0 in
          let other : eqb row.0.birth k.birth ≡ false = grind arith in
          rw other (rest r)

      go : (s : Bool) → nat_lt above row.0.birth ≡ s → (t : Bool) → p row.1 ≡ t → (first_above above rows ≡ Some k → IsLive rows k) → IsLive (row ∷ rows) k
      go false is t at rest = later rest (rw is at e)
      go true is false at rest = later rest (rw (is, at) at e)
      go true is true at rest =
          let same : row.0 ≡ k = same_Some row.0 k (rw (is, at) at e) in
          let here : eqb row.0.birth k.birth ≡ true = eq-eqb row.0.birth k.birth (ap (λ (x : Key). x.birth) same) in
          rw here (ap (λ (x : Key). x.index) same)

  -- those above the number are it, if it passes, and those above it
  some-above : (above low last : ℕ) (rows : Rows) (k : Key) → Rises low (births rows) last → Implied rows → first_above above rows ≡ Some k
      → all_above above rows ≡ cond (q k.birth) (k.birth ∷ all_above k.birth rows) (all_above k.birth rows)
  some-above above low last [] k rises all e = cc
  some-above above low last (row ∷ rows) k rises all e =
      go (nat_lt above row.0.birth) refl (p row.1) refl (some-above above row.0.birth last rows k rises.1 all.1)
    where
      by : nat_lt k.birth row.0.birth ≡ false → all_above above rows ≡ cond (q k.birth) (k.birth ∷ all_above k.birth rows) (all_above k.birth rows)
          → all_above above rows ≡ cond (q k.birth) (k.birth ∷ all_above k.birth (row ∷ rows)) (all_above k.birth (row ∷ rows))
      by low_it rest = rw low_it rest

      here : row.0 ≡ k → nat_lt above row.0.birth ≡ true
          → all_above above (row ∷ rows) ≡ cond (q row.0.birth) (row.0.birth ∷ all_above row.0.birth (row ∷ rows)) (all_above row.0.birth (row ∷ rows))
      here same is =
          let self : nat_lt row.0.birth row.0.birth ≡ false = grind (arith, nat_tests) in
          let up : above ≤ row.0.birth = grind (arith, nat_tests, is) in
          let rest : all_above above rows ≡ all_above row.0.birth rows =
          same-above above row.0.birth row.0.birth last rows up (omega arith) rises.1 in
          rw (is, self) (ap (λ (l : List ℕ). cond (q row.0.birth) (row.0.birth ∷ l) l) rest)

      go : (s : Bool) → nat_lt above row.0.birth ≡ s → (t : Bool) → p row.1 ≡ t
          → (first_above above rows ≡ Some k → all_above above rows ≡ cond (q k.birth) (k.birth ∷ all_above k.birth rows) (all_above k.birth rows))
          → all_above above (row ∷ rows) ≡ cond (q k.birth) (k.birth ∷ all_above k.birth (row ∷ rows)) (all_above k.birth (row ∷ rows))
      go false is t at rest =
          let found : first_above above rows ≡ Some k = rw is at e in
          let high : nat_lt above k.birth ≡ true = first-high above rows k found in
          let low_it : nat_lt k.birth row.0.birth ≡ false = grind (arith, nat_tests, is, high) in
          rw is (by low_it (rest found))
      go true is true at rest =
          let same : row.0 ≡ k = same_Some row.0 k (rw (is, at) at e) in
          subst (λ (x : Key). all_above above (row ∷ rows) ≡ cond (q x.birth) (x.birth ∷ all_above x.birth (row ∷ rows)) (all_above x.birth (row ∷ rows))) same
          (here same is)
      go true is false at rest =
          let found : first_above above rows ≡ Some k = rw (is, at) at e in
          let far : row.0.birth < k.birth = (first-within above row.0.birth last rows k rises.1 found).0 in
          let low_it : nat_lt k.birth row.0.birth ≡ false = grind (arith, nat_tests) in
          rw is
          (ap (λ (t : Bool). cond t (row.0.birth ∷ all_above above rows) (all_above above rows)) (not_it (q row.0.birth) refl) ∙ by low_it (rest found))
        where
          not_it : (u : Bool) → q row.0.birth ≡ u → q row.0.birth ≡ false
          not_it true has = absurd (cc (all.0 has, at))
          not_it false has = has

-- of a heap

-- none above a number was passed up to another
pub record Passes (v : Objects) (c above passed : ℕ) : Type 0 where
  pub low : above ≤ passed
  pub left : fed_above v c passed ≡ fed_above v c above

pub passes-none : (v : Objects) (c above : ℕ) → Passes v c above above
passes-none v c above = record { low = omega arith; left = refl }

module _ (v : Objects) (good : IsHeap v) (c : ℕ) where
  pub fed-all : fed_above v c 0 ≡ fed_on v c
  fed-all = go 0 v.born v.rows good.rising
    where
      go : (low last : ℕ) (rows : Rows) → Rises low (births rows) last → filter (λ (n : ℕ). nat_lt 0 n && goes_by v c n) (births rows) ≡ filter (goes_by v c) (births rows)
      go low last [] rises = refl
      go low last (row ∷ rows) rises =
          let up : low < row.0.birth = rises.0 in
          let some : nat_lt 0 row.0.birth ≡ true = grind (arith, nat_tests) in
          rw some (ap (λ (l : List ℕ). cond (goes_by v c row.0.birth) (row.0.birth ∷ l) l) (go row.0.birth last rows rises.1))

  module _ (above passed : ℕ) (so_far : Passes v c above passed) where
    pub next-none : weak_owner_above c passed v.rows ≡ None → fed_above v c above ≡ []
    next-none e = sym so_far.left ∙ none-above (goes_by v c) (is_weak_owner c) passed v.rows (all-owners v good c) e

    module _ (k : Key) (e : weak_owner_above c passed v.rows ≡ Some k) where
      pub owner-live : IsLive v.rows k
      owner-live = first-live (goes_by v c) (is_weak_owner c) passed 0 v.born v.rows k good.rising e

      pub owner-high : passed < k.birth
      owner-high = let high : nat_lt passed k.birth ≡ true = first-high (goes_by v c) (is_weak_owner c) passed v.rows k e in grind (arith, nat_tests, high)

      pub owner-born : k.birth ≤ v.born
      owner-born = (first-within (goes_by v c) (is_weak_owner c) passed 0 v.born v.rows k good.rising e).1

      split : fed_above v c passed ≡ cond (goes_by v c k.birth) (k.birth ∷ fed_above v c k.birth) (fed_above v c k.birth)
      split = some-above (goes_by v c) (is_weak_owner c) passed 0 v.born v.rows k good.rising (all-owners v good c) e

      pub next-found : goes_by v c k.birth ≡ true → IsNextFed v c above k
      next-found goes =
          let low = so_far.low in
          let high = owner-high in
          record {
            live = owner-live;
            higher = omega (arith, low, high);
            born = owner-born;
            fed = sym so_far.left ∙ split ∙ ap (λ (t : Bool). cond t (k.birth ∷ fed_above v c k.birth) (fed_above v c k.birth)) goes;
          }

      pub next-passed : goes_by v c k.birth ≡ false → Passes v c above k.birth
      next-passed not =
          let low = so_far.low in
          let high = owner-high in
          record {
            low = omega (arith, low, high);
            left = sym (split ∙ ap (λ (t : Bool). cond t (k.birth ∷ fed_above v c k.birth) (fed_above v c k.birth)) not) ∙ so_far.left;
          }
