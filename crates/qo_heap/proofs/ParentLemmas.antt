-- The parent of an object: who has it as a child, where one object is changed or ends.
use Rattle.std.proofs.Common.{◌≡◌, refl, ap, sym, ◌∙◌, ℕ, Bool, true, false, eqb, nat_lt, List, [], ◌∷◌, ◌++◌, map, sum_by, Some, None, arith}
use Rattle.std.specs.List.{AllByRecursion}
use Rattle.std.proofs.lemmas.Bool.{eqb-true}
use Rattle.std.proofs.lemmas.List.Sums.{sum_by-cons}
use Rattle.qo_slots.specs.declared.keys.Key.{Key}
use Rattle.qo_object.specs.Content.{Content, forgotten, is_parent}
use Rattle.qo_heap.specs.Rows.{IsLive, Rises, births, edit, object_at, without}
use Rattle.qo_heap.specs.Keeping.{children, owners, parent_in}
use Rattle.qo_heap.specs.Objects.{forgets}
use Rattle.qo_heap.proofs.HoldLemmas.{child_of_birth, children-weigh, forgotten-holds}
use Rattle.qo_heap.proofs.ReferenceLemmas.{none-counted, parent-counted}
use Rattle.qo_heap.proofs.RowsLemmas.{edit-above, same_key}

-- an object without an owner is no one's child
not-parent : (x : ℕ) (row : Key × Content) (rows : List (Key × Content)) → owners x (row ∷ rows) ≡ 0
    → (is_parent x row.1 ≡ false) × (owners x rows ≡ 0)
not-parent x row rows none =
    let split = sum_by-cons (λ (r : Key × Content). children x r.1) row rows in
    let here : children x row.1 ≡ 0 = omega (arith, none, split) in
    (parent-counted x row.1 ∙ ap (nat_lt 0) here, omega (arith, none, split))

pub none-owns : (x : ℕ) (rows : List (Key × Content)) → owners x rows ≡ 0 → parent_in rows x ≡ None
none-owns x [] none = refl
none-owns x (row ∷ rows) none = let (not, later) = not-parent x row rows none in rw not (none-owns x rows later)

-- and one without a parent has no owner
pub no-owner : (x : ℕ) (rows : List (Key × Content)) → parent_in rows x ≡ None → owners x rows ≡ 0
no-owner x [] none = refl
no-owner x (row ∷ rows) none = go (is_parent x row.1) refl (no-owner x rows)
  where
    go : (t : Bool) → is_parent x row.1 ≡ t → (parent_in rows x ≡ None → owners x rows ≡ 0) → owners x (row ∷ rows) ≡ 0
    go true is rest = absurd (let clash : Some row.0 ≡ None = rw is at none in cc)
    go false is rest =
        let not : nat_lt 0 (children x row.1) ≡ false = sym (parent-counted x row.1) ∙ is in
        let here : children x row.1 ≡ 0 = none-counted (children x row.1) not in
        let later : owners x rows ≡ 0 = rest (rw is at none) in
        omega (arith, here, later, sum_by-cons (λ (r : Key × Content). children x r.1) row rows)

-- where an edit changes nothing of whose parent an object is, each has the parent that it had
pub parent-edited : (x n : ℕ) (f : Content → Content) (c : Content) (above last : ℕ) (rows : List (Key × Content)) → Rises above (births rows) last
    → object_at rows n ≡ Some c → is_parent x (f c) ≡ is_parent x c → parent_in (edit n f rows) x ≡ parent_in rows x
parent-edited x n f c above last [] rises there same = refl
parent-edited x n f c above last (row ∷ rows) rises there same = go (eqb row.0.birth n) refl (parent-edited x n f c row.0.birth last rows rises.1)
  where
    go : (b : Bool) → eqb row.0.birth n ≡ b → (object_at rows n ≡ Some c → is_parent x (f c) ≡ is_parent x c → parent_in (edit n f rows) x ≡ parent_in rows x)
        → parent_in (edit n f (row ∷ rows)) x ≡ parent_in (row ∷ rows) x
    go true is rest =
        let here : row.1 ≡ c = cc (rw is at there) in
        let own : is_parent x (f row.1) ≡ is_parent x row.1 = ap (λ (d : Content). is_parent x (f d)) here ∙ same ∙ ap (is_parent x) (sym here) in
        let low : row.0.birth ≡ n = eqb-true row.0.birth n is in
        let tail : edit n f rows ≡ rows = edit-above n f row.0.birth last rows (omega arith) rises.1 in
        choose (is_parent x row.1) refl is own tail
      where
        choose : (t : Bool) → is_parent x row.1 ≡ t → eqb row.0.birth n ≡ true → is_parent x (f row.1) ≡ is_parent x row.1 → edit n f rows ≡ rows
            → parent_in (edit n f (row ∷ rows)) x ≡ parent_in (row ∷ rows) x
        choose true p is own tail = let q : is_parent x (f row.1) ≡ true = own ∙ p in rw (is, p, q) refl
        choose false p is own tail =
            let q : is_parent x (f row.1) ≡ false = own ∙ p in
            rw (is, p, q) (ap (λ (rs : List (Key × Content)). parent_in rs x) tail)
    go false is rest = choose (is_parent x row.1) refl
      where
        choose : (t : Bool) → is_parent x row.1 ≡ t → parent_in (edit n f (row ∷ rows)) x ≡ parent_in (row ∷ rows) x
        choose true p = rw (is, p) refl
        choose false p = rw (is, p) (rest (rw is at there) same)

-- where an object without an owner becomes a child, its owner is its parent
pub parent-gained : (x : ℕ) (key : Key) (f : Content → Content) (c : Content) (rows : List (Key × Content)) → IsLive rows key
    → object_at rows key.birth ≡ Some c → owners x rows ≡ 0 → is_parent x (f c) ≡ true → parent_in (edit key.birth f rows) x ≡ Some key
parent-gained x key f c [] live there none new = absurd live
parent-gained x key f c (row ∷ rows) live there none new =
    let (not, later) = not-parent x row rows none in
    go (eqb row.0.birth key.birth) refl (parent-gained x key f c rows) not later
  where
    go : (b : Bool) → eqb row.0.birth key.birth ≡ b
        → (IsLive rows key → object_at rows key.birth ≡ Some c → owners x rows ≡ 0 → is_parent x (f c) ≡ true → parent_in (edit key.birth f rows) x ≡ Some key)
        → is_parent x row.1 ≡ false → owners x rows ≡ 0 → parent_in (edit key.birth f (row ∷ rows)) x ≡ Some key
    go true is rest not later =
        let here : row.1 ≡ c = cc (rw is at there) in
        let own : is_parent x (f row.1) ≡ true = ap (λ (d : Content). is_parent x (f d)) here ∙ new in
        let index : row.0.index ≡ key.index = rw is at live in
        rw (is, own) (ap (λ (k : Key). Some k) (same_key row.0 key index (eqb-true row.0.birth key.birth is)))
    go false is rest not later = rw (is, not) (rest (rw is at live) (rw is at there) later new)

-- an object that is no parent goes: each has the parent that it had
pub parent-left : (x n : ℕ) (rows : List (Key × Content)) → AllByRecursion (λ (row : Key × Content). eqb row.0.birth n ≡ true → is_parent x row.1 ≡ false) rows
    → parent_in (map (forgets n) (without n rows)) x ≡ parent_in rows x
parent-left x n [] not = refl
parent-left x n (row ∷ rows) not = go (eqb row.0.birth n) refl (is_parent x row.1) refl not.0 (parent-left x n rows not.1)
  where
    stays : is_parent x (forgotten n row.1) ≡ is_parent x row.1
    stays =
        let same : children x (forgotten n row.1) ≡ children x row.1 =
        children-weigh x (forgotten n row.1).slots ∙ ap (sum_by (child_of_birth x)) (forgotten-holds n row.1) ∙ sym (children-weigh x row.1.slots) in
        parent-counted x (forgotten n row.1) ∙ ap (nat_lt 0) same ∙ sym (parent-counted x row.1)

    go : (b : Bool) → eqb row.0.birth n ≡ b → (t : Bool) → is_parent x row.1 ≡ t → (eqb row.0.birth n ≡ true → is_parent x row.1 ≡ false)
        → parent_in (map (forgets n) (without n rows)) x ≡ parent_in rows x
        → parent_in (map (forgets n) (without n (row ∷ rows))) x ≡ parent_in (row ∷ rows) x
    go true is true p own rest = absurd (let no = own is in cc (p, no))
    go true is false p own rest = rw (is, p) rest
    go false is true p own rest = let q : is_parent x (forgotten n row.1) ≡ true = stays ∙ p in rw (is, q, p) refl
    go false is false p own rest = let q : is_parent x (forgotten n row.1) ≡ false = stays ∙ p in rw (is, q, p) rest

-- an object that is no parent comes after the others
pub parent-more : (x : ℕ) (rows : List (Key × Content)) (row : Key × Content) → is_parent x row.1 ≡ false → parent_in (rows ++ row ∷ []) x ≡ parent_in rows x
parent-more x [] row not = rw not refl
parent-more x (r ∷ rows) row not = go (is_parent x r.1) refl (parent-more x rows row not)
  where
    go : (t : Bool) → is_parent x r.1 ≡ t → parent_in (rows ++ row ∷ []) x ≡ parent_in rows x → parent_in (r ∷ rows ++ row ∷ []) x ≡ parent_in (r ∷ rows) x
    go true is rest = rw is refl
    go false is rest = rw is rest
