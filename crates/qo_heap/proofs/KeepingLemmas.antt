-- What is kept of objects stays what their slots say.
use Rattle.std.proofs.Common.{◌≡◌, refl, ap, ap₂, sym, subst, ◌∙◌, ℕ, zero, suc, ◌+◌, ◌*◌, ◌^◌, ◌<◌, ◌≤◌, Bool, true, false, cond, eqb, nat_lt, List, [], ◌∷◌, ◌++◌, map, length, sum_by, find, slice_get, option_to_list, Option, Some, None, option_map, arith}
use Rattle.std.specs.List.{AllByRecursion, cons_option}
use Rattle.std.proofs.lemmas.Bool.{eqb-true, eq-eqb}
use Rattle.std.proofs.lemmas.List.Sums.{count_by-le-length, sum_by-cons}
use Rattle.qo_values.proofs.ListLemmas.{all-imply}
use Rattle.qo_slots.specs.declared.keys.Key.{Key}
use Rattle.qo_object.specs.Slots.{Named, holds}
use Rattle.qo_object.specs.Content.{Content, holding}
use Rattle.qo_heap.specs.Rows.{IsLive, Rises, births, edit, edited, object_at, without}
use Rattle.qo_heap.specs.Keeping.{IsCounted, IsKept, IsShort, all_less, all_more, children, entry_forgets, holders, less_held, more_held, owners, parent_in, plain, plain_row, with_object}
use Rattle.qo_heap.specs.Objects.{forgets}
use Rattle.qo_heap.specs.declared.entries.Entry.{Entry}
use Rattle.qo_heap.specs.declared.entries.Hold.{Hold}
use Rattle.qo_heap.proofs.BookLemmas.{sum-changed}
use Rattle.qo_heap.proofs.HoldLemmas.{Moves, child_of_birth, moved-children, moved-holding, of_birth}
use Rattle.qo_heap.proofs.ParentLemmas.{none-owns, parent-edited, parent-gained}
use Rattle.qo_heap.proofs.ReferenceLemmas.{counted-some, none-counted, parent-counted, some-counted}
use Rattle.qo_heap.proofs.RowsLemmas.{edit-as}

-- rows without what is kept

pub births-plain : (rows : List (Key × Entry)) → births (plain rows) ≡ births rows
births-plain [] = refl
births-plain (row ∷ rows) = ap (λ (l : List ℕ). row.0.birth ∷ l) (births-plain rows)

pub length-plain : (rows : List (Key × Entry)) → length (plain rows) ≡ length rows
length-plain [] = refl
length-plain (row ∷ rows) = let rest = length-plain rows in omega arith

pub live-entry : (rows : List (Key × Entry)) (key : Key) → IsLive (plain rows) key → IsLive rows key
live-entry [] key live = live
live-entry (row ∷ rows) key live = go (eqb row.0.birth key.birth) refl (live-entry rows key)
  where
    go : (b : Bool) → eqb row.0.birth key.birth ≡ b → (IsLive (plain rows) key → IsLive rows key) → IsLive (row ∷ rows) key
    go true is rest = let here : row.0.index ≡ key.index = rw is at live in rw is here
    go false is rest = rw is (rest (rw is at live))

pub live-plain : (rows : List (Key × Entry)) (key : Key) → IsLive rows key → IsLive (plain rows) key
live-plain [] key live = live
live-plain (row ∷ rows) key live = go (eqb row.0.birth key.birth) refl (live-plain rows key)
  where
    go : (b : Bool) → eqb row.0.birth key.birth ≡ b → (IsLive rows key → IsLive (plain rows) key) → IsLive (plain (row ∷ rows)) key
    go true is rest = let here : row.0.index ≡ key.index = rw is at live in rw is here
    go false is rest = rw is (rest (rw is at live))

pub object-plain : (rows : List (Key × Entry)) (n : ℕ) → object_at (plain rows) n ≡ option_map (λ (e : Entry). e.object) (object_at rows n)
object-plain [] n = refl
object-plain (row ∷ rows) n = go (eqb row.0.birth n) refl (object-plain rows n)
  where
    go : (b : Bool) → eqb row.0.birth n ≡ b → object_at (plain rows) n ≡ option_map (λ (e : Entry). e.object) (object_at rows n)
        → object_at (plain (row ∷ rows)) n ≡ option_map (λ (e : Entry). e.object) (object_at (row ∷ rows) n)
    go true is rest = rw is refl
    go false is rest = rw is rest

-- what is read of an entry, of its object
pub plain-there : (rows : List (Key × Entry)) (n : ℕ) (e : Entry) → object_at rows n ≡ Some e → object_at (plain rows) n ≡ Some e.object
plain-there rows n e there = object-plain rows n ∙ ap (option_map (λ (x : Entry). x.object)) there

pub plain-edited : (n : ℕ) (f : Content → Content) (rows : List (Key × Entry)) → plain (edit n (with_object f) rows) ≡ edit n f (plain rows)
plain-edited n f [] = refl
plain-edited n f (row ∷ rows) = go (eqb row.0.birth n) refl (plain-edited n f rows)
  where
    go : (b : Bool) → eqb row.0.birth n ≡ b → plain (edit n (with_object f) rows) ≡ edit n f (plain rows)
        → plain (edit n (with_object f) (row ∷ rows)) ≡ edit n f (plain (row ∷ rows))
    go true is rest = rw is (ap (λ (l : List (Key × Content)). (row.0, f row.1.object) ∷ l) rest)
    go false is rest = rw is (ap (λ (l : List (Key × Content)). plain_row row ∷ l) rest)

pub plain-same : (n : ℕ) (g : Entry → Entry) → ((e : Entry) → (g e).object ≡ e.object) → (rows : List (Key × Entry)) → plain (edit n g rows) ≡ plain rows
plain-same n g same [] = refl
plain-same n g same (row ∷ rows) = go (eqb row.0.birth n) refl (plain-same n g same rows)
  where
    go : (b : Bool) → eqb row.0.birth n ≡ b → plain (edit n g rows) ≡ plain rows → plain (edit n g (row ∷ rows)) ≡ plain (row ∷ rows)
    go true is rest = rw is (ap₂ (λ (c : Content) (l : List (Key × Content)). (row.0, c) ∷ l) (same row.1) rest)
    go false is rest = rw is (ap (λ (l : List (Key × Content)). plain_row row ∷ l) rest)

pub plain-more : (owner : Key) (hs : List Hold) (rows : List (Key × Entry)) → plain (all_more owner hs rows) ≡ plain rows
plain-more owner [] rows = refl
plain-more owner (h ∷ hs) rows =
    plain-more owner hs (edit h.key.birth (more_held h.child owner) rows) ∙ plain-same h.key.birth (more_held h.child owner) (λ e. refl) rows

pub plain-less : (hs : List Hold) (rows : List (Key × Entry)) → plain (all_less hs rows) ≡ plain rows
plain-less [] rows = refl
plain-less (h ∷ hs) rows =
    plain-less hs (edit h.key.birth (less_held h.child) rows) ∙ plain-same h.key.birth (less_held h.child) (λ e. refl) rows

pub plain-left : (n : ℕ) (rows : List (Key × Entry)) → plain (map (entry_forgets n) (without n rows)) ≡ map (forgets n) (without n (plain rows))
plain-left n [] = refl
plain-left n (row ∷ rows) = go (eqb row.0.birth n) refl (plain-left n rows)
  where
    go : (b : Bool) → eqb row.0.birth n ≡ b → plain (map (entry_forgets n) (without n rows)) ≡ map (forgets n) (without n (plain rows))
        → plain (map (entry_forgets n) (without n (row ∷ rows))) ≡ map (forgets n) (without n (plain (row ∷ rows)))
    go true is rest = rw is rest
    go false is rest = rw is (ap (λ (l : List (Key × Content)). forgets n (plain_row row) ∷ l) rest)

pub plain-added : (rows : List (Key × Entry)) (row : Key × Entry) → plain (rows ++ row ∷ []) ≡ plain rows ++ plain_row row ∷ []
plain-added [] row = refl
plain-added (r ∷ rows) row = ap (λ (l : List (Key × Content)). plain_row r ∷ l) (plain-added rows row)

pub plain-without : (n : ℕ) (rows : List (Key × Entry)) → plain (without n rows) ≡ without n (plain rows)
plain-without n [] = refl
plain-without n (row ∷ rows) = go (eqb row.0.birth n) refl (plain-without n rows)
  where
    go : (b : Bool) → eqb row.0.birth n ≡ b → plain (without n rows) ≡ without n (plain rows)
        → plain (without n (row ∷ rows)) ≡ without n (plain (row ∷ rows))
    go true is rest = rw is rest
    go false is rest = rw is (ap (λ (l : List (Key × Content)). plain_row row ∷ l) rest)

-- the name of the row at a place, and of the first row whose name passes a test
pub key-plain : (rows : List (Key × Entry)) (place : ℕ)
    → option_map (λ (row : Key × Content). row.0) (slice_get (plain rows) place) ≡ option_map (λ (row : Key × Entry). row.0) (slice_get rows place)
key-plain [] place = refl
key-plain (row ∷ rows) zero = refl
key-plain (row ∷ rows) (suc place) = key-plain rows place

pub find-plain : (p : Key → Bool) (rows : List (Key × Entry))
    → option_map (λ (row : Key × Content). row.0) (find (λ row. p row.0) (plain rows)) ≡ option_map (λ (row : Key × Entry). row.0) (find (λ row. p row.0) rows)
find-plain p [] = refl
find-plain p (row ∷ rows) = by (p row.0) (find-plain p rows)
  where
    by : (b : Bool) → option_map (λ (r : Key × Content). r.0) (find (λ r. p r.0) (plain rows)) ≡ option_map (λ (r : Key × Entry). r.0) (find (λ r. p r.0) rows)
        → option_map (λ (r : Key × Content). r.0) (cond b (Some (plain_row row)) (find (λ r. p r.0) (plain rows)))
        ≡ option_map (λ (r : Key × Entry). r.0) (cond b (Some row) (find (λ r. p r.0) rows))
    by true rest = refl
    by false rest = rest

pub keys-plain : (rows : List (Key × Entry)) → map (λ (row : Key × Content). row.0) (plain rows) ≡ map (λ (row : Key × Entry). row.0) rows
keys-plain [] = refl
keys-plain (row ∷ rows) = ap (λ (l : List Key). row.0 ∷ l) (keys-plain rows)

-- what all rows have, where one is edited, and where one goes
module _ {T : Type 0} (P Q : Key × T → Type 0) (n : ℕ) where
  pub all-edit : (g : T → T) → ((row : Key × T) → P row → Q (edited n g row)) → (rows : List (Key × T)) → AllByRecursion P rows
      → AllByRecursion Q (edit n g rows)
  all-edit g step [] all = tt
  all-edit g step (row ∷ rows) all = (step row all.0, all-edit g step rows all.1)

  pub all-left : (g : Key × T → Key × T) → ((row : Key × T) → P row → Q (g row)) → (rows : List (Key × T)) → AllByRecursion P rows
      → AllByRecursion Q (map g (without n rows))
  all-left g step [] all = tt
  all-left g step (row ∷ rows) all = go (eqb row.0.birth n) refl (all-left g step rows all.1)
    where
      go : (b : Bool) → eqb row.0.birth n ≡ b → AllByRecursion Q (map g (without n rows)) → AllByRecursion Q (map g (without n (row ∷ rows)))
      go true is rest = rw is rest
      go false is rest = rw is (step row all.0, rest)

-- what all rows have, the one of a birth has
pub all-object : {T : Type 0} (P : ℕ → T → Type 0) (rows : List (Key × T)) → AllByRecursion (λ (row : Key × T). P row.0.birth row.1) rows → (n : ℕ) (e : T)
    → object_at rows n ≡ Some e → P n e
all-object P [] all n e there = cc
all-object P (row ∷ rows) all n e there = go (eqb row.0.birth n) refl (all-object P rows all.1 n e)
  where
    go : (b : Bool) → eqb row.0.birth n ≡ b → (object_at rows n ≡ Some e → P n e) → P n e
    go true is rest =
        let here : row.1 ≡ e = cc (rw is at there) in
        subst (λ (x : ℕ). P x e) (eqb-true row.0.birth n is) (subst (P row.0.birth) here all.0)
    go false is rest = rest (rw is at there)

-- what is kept, once holds came to be and once they ended

-- one hold more or less of a birth, which is a child or not
parent-step : (t : Bool) (a s r : ℕ) (o p q : Option Key) → a ≡ cond t 1 0 → s ≡ a + r → cond (nat_lt 0 s) o p ≡ q → cond (nat_lt 0 r) o (cond t o p) ≡ q
parent-step true a s r o p q one sum is = by (nat_lt 0 r) (sym (ap (λ (b : Bool). cond b o p) (counted-some s (omega (arith, one, sum)))) ∙ is)
  where
    by : (b : Bool) → o ≡ q → cond b o o ≡ q
    by true e = e
    by false e = e
parent-step false a s r o p q none sum is = let same : r ≡ s = omega (arith, none, sum) in ap (λ (k : ℕ). cond (nat_lt 0 k) o p) same ∙ is

turned : (b n : ℕ) → eqb b n ≡ true → eqb n b ≡ true
turned b n e = eq-eqb n b (sym (eqb-true b n e))

turned-not : (b n : ℕ) → eqb b n ≡ false → eqb n b ≡ false
turned-not b n e = grind (arith, e)

module _ (x : ℕ) (h : Hold) (hs : List Hold) where
  of-here : eqb x h.key.birth ≡ true → sum_by (of_birth x) (h ∷ hs) ≡ 1 + sum_by (of_birth x) hs
  of-here is =
      let one : of_birth x h ≡ 1 = ap (λ (b : Bool). cond {A = ℕ} b 1 0) (turned x h.key.birth is) in
      omega (arith, one, sum_by-cons (of_birth x) h hs)

  of-other : eqb x h.key.birth ≡ false → sum_by (of_birth x) (h ∷ hs) ≡ sum_by (of_birth x) hs
  of-other is =
      let none : of_birth x h ≡ 0 = ap (λ (b : Bool). cond {A = ℕ} b 1 0) (turned-not x h.key.birth is) in
      omega (arith, none, sum_by-cons (of_birth x) h hs)

  child-here : eqb x h.key.birth ≡ true → child_of_birth x h ≡ cond h.child 1 0
  child-here is = ap (λ (b : Bool). cond {A = ℕ} h.child (cond {A = ℕ} b 1 0) 0) (turned x h.key.birth is)

  child-other : eqb x h.key.birth ≡ false → sum_by (child_of_birth x) (h ∷ hs) ≡ sum_by (child_of_birth x) hs
  child-other is =
      let none : child_of_birth x h ≡ 0 = ap (λ (b : Bool). cond {A = ℕ} h.child (cond {A = ℕ} b 1 0) 0) (turned-not x h.key.birth is) ∙ nothing h.child in
      omega (arith, none, sum_by-cons (child_of_birth x) h hs)
    where
      nothing : (t : Bool) → cond {A = ℕ} t 0 0 ≡ 0
      nothing true = refl
      nothing false = refl

-- what is kept before holds come to be, so that it is right after
abbrev pub LessBy : Key → List (Key × Content) → List Hold → Key × Entry → Type 0
LessBy owner after hs row =
    (row.1.held + sum_by (of_birth row.0.birth) hs ≡ holders row.0.birth after)
    × (cond (nat_lt 0 (sum_by (child_of_birth row.0.birth) hs)) (Some owner) row.1.parent ≡ parent_in after row.0.birth)

pub more-counted : (owner : Key) (after : List (Key × Content)) (hs : List Hold) (rows : List (Key × Entry)) → AllByRecursion (LessBy owner after hs) rows
    → AllByRecursion (IsCounted after) (all_more owner hs rows)
more-counted owner after [] rows all =
    all-imply (LessBy owner after []) (IsCounted after)
    (λ row both. let held : row.1.held + 0 ≡ holders row.0.birth after = both.0 in record { held = omega (arith, held); parent = both.1 }) rows all
more-counted owner after (h ∷ hs) rows all =
    more-counted owner after hs (edit h.key.birth (more_held h.child owner) rows)
    (all-edit (LessBy owner after (h ∷ hs)) (LessBy owner after hs) h.key.birth (more_held h.child owner) step rows all)
  where
    step : (row : Key × Entry) → LessBy owner after (h ∷ hs) row → LessBy owner after hs (edited h.key.birth (more_held h.child owner) row)
    step row both = go (eqb row.0.birth h.key.birth) refl
      where
        go : (b : Bool) → eqb row.0.birth h.key.birth ≡ b → LessBy owner after hs (edited h.key.birth (more_held h.child owner) row)
        go true is = rw is (
          omega (arith, both.0, of-here row.0.birth h hs is),
          parent-step h.child (child_of_birth row.0.birth h) (sum_by (child_of_birth row.0.birth) (h ∷ hs)) (sum_by (child_of_birth row.0.birth) hs)
              (Some owner) row.1.parent (parent_in after row.0.birth) (child-here row.0.birth h hs is) (sum_by-cons (child_of_birth row.0.birth) h hs) both.1,
        )
        go false is = rw is (
          omega (arith, both.0, of-other row.0.birth h hs is),
          ap (λ (k : ℕ). cond (nat_lt 0 k) (Some owner) row.1.parent) (sym (child-other row.0.birth h hs is)) ∙ both.1,
        )

-- and before they end
abbrev pub MoreBy : List (Key × Content) → List Hold → Key × Entry → Type 0
MoreBy after hs row =
    (row.1.held ≡ holders row.0.birth after + sum_by (of_birth row.0.birth) hs)
    × (cond (nat_lt 0 (sum_by (child_of_birth row.0.birth) hs)) None row.1.parent ≡ parent_in after row.0.birth)

pub less-counted : (after : List (Key × Content)) (hs : List Hold) (rows : List (Key × Entry)) → AllByRecursion (MoreBy after hs) rows
    → AllByRecursion (IsCounted after) (all_less hs rows)
less-counted after [] rows all =
    all-imply (MoreBy after []) (IsCounted after)
    (λ row both. let held : row.1.held ≡ holders row.0.birth after + 0 = both.0 in record { held = omega (arith, held); parent = both.1 }) rows all
less-counted after (h ∷ hs) rows all =
    less-counted after hs (edit h.key.birth (less_held h.child) rows)
    (all-edit (MoreBy after (h ∷ hs)) (MoreBy after hs) h.key.birth (less_held h.child) step rows all)
  where
    step : (row : Key × Entry) → MoreBy after (h ∷ hs) row → MoreBy after hs (edited h.key.birth (less_held h.child) row)
    step row both = go (eqb row.0.birth h.key.birth) refl
      where
        go : (b : Bool) → eqb row.0.birth h.key.birth ≡ b → MoreBy after hs (edited h.key.birth (less_held h.child) row)
        go true is = rw is (
          omega (arith, both.0, of-here row.0.birth h hs is),
          parent-step h.child (child_of_birth row.0.birth h) (sum_by (child_of_birth row.0.birth) (h ∷ hs)) (sum_by (child_of_birth row.0.birth) hs)
              None row.1.parent (parent_in after row.0.birth) (child-here row.0.birth h hs is) (sum_by-cons (child_of_birth row.0.birth) h hs) both.1,
        )
        go false is = rw is (
          omega (arith, both.0, of-other row.0.birth h hs is),
          ap (λ (k : ℕ). cond (nat_lt 0 k) None row.1.parent) (sym (child-other row.0.birth h hs is)) ∙ both.1,
        )

-- the first of some holds, and how high each count is once one came to be
pub more-first : (owner : Key) (hold : Option Hold) (hs : List Hold) (rows : List (Key × Entry))
    → all_more owner (cons_option hold hs) rows ≡ all_more owner hs (all_more owner (option_to_list hold) rows)
more-first owner None hs rows = refl
more-first owner (Some h) hs rows = refl

pub more-room : (owner : Key) (hold : Option Hold) (size place : ℕ) (rows : List (Key × Entry))
    → AllByRecursion (λ (row : Key × Entry). row.1.held + size < 9223372036854775808 + place) rows
    → AllByRecursion (λ (row : Key × Entry). row.1.held + size < 9223372036854775808 + (place + 1)) (all_more owner (option_to_list hold) rows)
more-room owner None size place rows all =
    all-imply (λ (row : Key × Entry). row.1.held + size < 9223372036854775808 + place)
    (λ (row : Key × Entry). row.1.held + size < 9223372036854775808 + (place + 1)) (λ row low. omega (arith, low)) rows all
more-room owner (Some h) size place rows all =
    all-edit (λ (row : Key × Entry). row.1.held + size < 9223372036854775808 + place)
    (λ (row : Key × Entry). row.1.held + size < 9223372036854775808 + (place + 1)) h.key.birth (more_held h.child owner) step rows all
  where
    step : (row : Key × Entry) → row.1.held + size < 9223372036854775808 + place
        → (edited h.key.birth (more_held h.child owner) row).1.held + size < 9223372036854775808 + (place + 1)
    step row low = go (eqb row.0.birth h.key.birth) refl
      where
        go : (b : Bool) → eqb row.0.birth h.key.birth ≡ b
            → (edited h.key.birth (more_held h.child owner) row).1.held + size < 9223372036854775808 + (place + 1)
        go true is = rw is (omega (arith, low))
        go false is = rw is (omega (arith, low))

-- an object changed leaves what is kept of each
pub object-counted : (rows : List (Key × Content)) (n : ℕ) (f : Content → Content) (kept : List (Key × Entry)) → AllByRecursion (IsCounted rows) kept
    → AllByRecursion (IsCounted rows) (edit n (with_object f) kept)
object-counted rows n f kept all = all-edit (IsCounted rows) (IsCounted rows) n (with_object f) step kept all
  where
    step : (row : Key × Entry) → IsCounted rows row → IsCounted rows (edited n (with_object f) row)
    step row counted = go (eqb row.0.birth n) refl
      where
        go : (b : Bool) → eqb row.0.birth n ≡ b → IsCounted rows (edited n (with_object f) row)
        go true is = rw is (record { held = counted.held; parent = counted.parent })
        go false is = rw is counted

-- one object changed

module _ (before : List (Key × Content)) (last : ℕ) (rises : Rises 0 (births before) last) (o : Key) (live : IsLive before o) (f : Content → Content)
    (c : Content) (there : object_at before o.birth ≡ Some c) where
  abbrev after : List (Key × Content)
  after = edit o.birth f before

  pub holders-moved : (lost won : List Hold) → Moves c (f c) lost won → (x : ℕ)
      → holders x after + sum_by (of_birth x) lost ≡ holders x before + sum_by (of_birth x) won
  holders-moved lost won moves x =
      let sums = sum-changed (λ (row : Key × Content). holding x row.1) o.birth f 0 last before rises c there (λ key d. refl) in
      omega (arith, sums, moved-holding c (f c) lost won moves x)

  owners-moved : (lost won : List Hold) → Moves c (f c) lost won → (x : ℕ)
      → owners x after + sum_by (child_of_birth x) lost ≡ owners x before + sum_by (child_of_birth x) won
  owners-moved lost won moves x =
      let sums = sum-changed (λ (row : Key × Content). children x row.1) o.birth f 0 last before rises c there (λ key d. refl) in
      omega (arith, sums, moved-children c (f c) lost won moves x)

  same-parent : (x : ℕ) → children x (f c) ≡ children x c → parent_in after x ≡ parent_in before x
  same-parent x same =
      parent-edited x o.birth f c 0 last before rises there (parent-counted x (f c) ∙ ap (nat_lt 0) same ∙ sym (parent-counted x c))

  parent-won : (won : List Hold) → Moves c (f c) [] won → (x : ℕ) → sum_by (child_of_birth x) won + owners x before ≤ 1
      → cond (nat_lt 0 (sum_by (child_of_birth x) won)) (Some o) (parent_in before x) ≡ parent_in after x
  parent-won won moves x few = go (nat_lt 0 (sum_by (child_of_birth x) won)) refl
    where
      go : (t : Bool) → nat_lt 0 (sum_by (child_of_birth x) won) ≡ t → cond t (Some o) (parent_in before x) ≡ parent_in after x
      go true is =
          let some : 0 < sum_by (child_of_birth x) won = some-counted (sum_by (child_of_birth x) won) is in
          let none : owners x before ≡ 0 = omega (arith, some, few) in
          let new : 0 < children x (f c) = omega (arith, some, moved-children c (f c) [] won moves x) in
          sym (parent-gained x o f c before live there none (parent-counted x (f c) ∙ counted-some (children x (f c)) new))
      go false is =
          let none : sum_by (child_of_birth x) won ≡ 0 = none-counted (sum_by (child_of_birth x) won) is in
          sym (same-parent x (omega (arith, none, moved-children c (f c) [] won moves x)))

  parent-lost : (lost : List Hold) → Moves c (f c) lost [] → (x : ℕ) → owners x before ≤ 1
      → cond (nat_lt 0 (sum_by (child_of_birth x) lost)) None (parent_in before x) ≡ parent_in after x
  parent-lost lost moves x few = go (nat_lt 0 (sum_by (child_of_birth x) lost)) refl
    where
      go : (t : Bool) → nat_lt 0 (sum_by (child_of_birth x) lost) ≡ t → cond t None (parent_in before x) ≡ parent_in after x
      go true is =
          let some : 0 < sum_by (child_of_birth x) lost = some-counted (sum_by (child_of_birth x) lost) is in
          sym (none-owns x after (omega (arith, some, few, owners-moved lost [] moves x)))
      go false is =
          let none : sum_by (child_of_birth x) lost ≡ 0 = none-counted (sum_by (child_of_birth x) lost) is in
          sym (same-parent x (omega (arith, none, moved-children c (f c) lost [] moves x)))

  pub counted-won : (won : List Hold) → Moves c (f c) [] won → ((x : ℕ) → sum_by (child_of_birth x) won + owners x before ≤ 1)
      → (kept : List (Key × Entry)) → AllByRecursion (IsCounted before) kept → AllByRecursion (IsCounted after) (all_more o won kept)
  counted-won won moves few kept all =
      more-counted o after won kept (all-imply (IsCounted before) (LessBy o after won)
      (λ row counted. (
        omega (arith, counted.held, holders-moved [] won moves row.0.birth),
        ap (λ (p : Option Key). cond (nat_lt 0 (sum_by (child_of_birth row.0.birth) won)) (Some o) p) counted.parent ∙ parent-won won moves row.0.birth (few row.0.birth),
      )) kept all)

  pub counted-lost : (lost : List Hold) → Moves c (f c) lost [] → ((x : ℕ) → owners x before ≤ 1) → (kept : List (Key × Entry))
      → AllByRecursion (IsCounted before) kept → AllByRecursion (IsCounted after) (all_less lost kept)
  counted-lost lost moves once kept all =
      less-counted after lost kept (all-imply (IsCounted before) (MoreBy after lost)
      (λ row counted. (
        omega (arith, counted.held, holders-moved lost [] moves row.0.birth),
        ap (λ (p : Option Key). cond (nat_lt 0 (sum_by (child_of_birth row.0.birth) lost)) None p) counted.parent ∙ parent-lost lost moves row.0.birth (once row.0.birth),
      )) kept all)

  pub once-won : (won : List Hold) → Moves c (f c) [] won → ((x : ℕ) → sum_by (child_of_birth x) won + owners x before ≤ 1) → (x : ℕ) → owners x after ≤ 1
  once-won won moves few x = omega (arith, few x, owners-moved [] won moves x)

  pub once-lost : (lost : List Hold) → Moves c (f c) lost [] → ((x : ℕ) → owners x before ≤ 1) → (x : ℕ) → owners x after ≤ 1
  once-lost lost moves once x = omega (arith, once x, owners-moved lost [] moves x)

  pub short-after : length (f c).slots ≤ 2 ^ 32 → AllByRecursion IsShort before → AllByRecursion IsShort after
  short-after new all =
      subst (λ (rows : List (Key × Content)). AllByRecursion IsShort rows) (edit-as o.birth f c (f c) 0 last before rises there refl)
      (all-edit IsShort IsShort o.birth (λ _. f c) step before all)
    where
      step : (row : Key × Content) → IsShort row → IsShort (edited o.birth (λ _. f c) row)
      step row short = go (eqb row.0.birth o.birth) refl
        where
          go : (b : Bool) → eqb row.0.birth o.birth ≡ b → IsShort (edited o.birth (λ _. f c) row)
          go true is = rw is new
          go false is = rw is short

-- rows that are kept, by what they are without what is kept
pub kept-as : (rows : List (Key × Entry)) (left : List (Key × Content)) → plain rows ≡ left → ((x : ℕ) → owners x left ≤ 1) → AllByRecursion IsShort left
    → AllByRecursion (IsCounted left) rows → IsKept rows
kept-as rows left is once short counts =
    record {
      once = λ x. subst (λ (l : List (Key × Content)). owners x l ≤ 1) (sym is) (once x);
      short = subst (λ (l : List (Key × Content)). AllByRecursion IsShort l) (sym is) short;
      counts = subst (λ (l : List (Key × Content)). AllByRecursion (IsCounted l) rows) (sym is) counts;
    }

-- how many slots hold an object, at most
short-holding : (x : ℕ) (row : Key × Content) → IsShort row → holding x row.1 ≤ 4294967296
short-holding x row short =
    let few : length row.1.slots ≤ 4294967296 = short in
    omega (arith, few, count_by-le-length (λ (s : Named). holds x s.1) row.1.slots)

pub holders-few : (x : ℕ) (rows : List (Key × Content)) → AllByRecursion IsShort rows → holders x rows ≤ length rows * 4294967296
holders-few x [] short = omega arith
holders-few x (row ∷ rows) short =
    omega (arith, short-holding x row short.0, holders-few x rows short.1, sum_by-cons (λ (r : Key × Content). holding x r.1) row rows)
