-- A book that is right stays right: where an object is made, changed and ends, and where claims are taken and given back.
use Rattle.std.proofs.Common.{◌≡◌, refl, ap, ◌∙◌, ℕ, ◌+◌, ◌<◌, ◌≤◌, Bool, true, false, cond, eqb, List, [], ◌∷◌, ◌++◌, map, sum_by, count_by, nat_lt, Option, Some, None, option_map, arith}
use Rattle.std.specs.Set.{remove_key}
use Rattle.std.specs.Str.{bytes_eq}
use Rattle.std.proofs.lemmas.Bool.{and_parts, eqb-true}
use Rattle.std.proofs.lemmas.List.Sums.{sum_by-append, sum_by-cons}
use Rattle.std.proofs.lemmas.Slice.Eq.{bytes_eq-Decides}
use Rattle.qo_values.specs.declared.ranges.Range.{Range}
use Rattle.qo_claims.specs.Book.{ClaimsTaken, with_claim, without_claim}
use Rattle.qo_claims.specs.Lists.{slot_eq, range_eq, with_range}
use Rattle.qo_claims.specs.declared.claims.Claimed.{Claimed}
use Rattle.qo_claims.specs.declared.claims.Claimed.TheVariants as on
use Rattle.qo_claims.specs.declared.slots.BusSlot.{BusSlot}
use Rattle.qo_claims.proofs.ReturnedClaims.{eqb-same, slot_eq-same, range_eq-same}
use Rattle.qo_kinds.specs.Bodies.{kept_of}
use Rattle.qo_kinds.specs.declared.bodies.Body.{Body}
use Rattle.qo_kinds.specs.declared.kept_set.KeptSet.{KeptSet}
use Rattle.qo_slots.specs.declared.keys.Key.{Key}
use Rattle.qo_object.specs.Content.{Content}
use Rattle.qo_heap.specs.Rows.{Rises, births, edit, edited, object_at, without}
use Rattle.qo_heap.specs.Book.{IsBook, claim_eq, counted, kept_times, one, owned}
use Rattle.qo_heap.specs.Objects.{IsHeap, Objects, content_of, ended, forgets, with_edit, without_kept, without_one}

-- one key is taken out of a list in which it is
module _ {K : Type 0} (eq : K → K → Bool) (same : (a b : K) → eq a b ≡ true → a ≡ b) where
  taken : (a b : K) (ks : List K) → 0 < count_by (eq a) ks → cond (eq b a) 1 0 + count_by (eq b) (remove_key (eq a) ks) ≡ count_by (eq b) ks
  taken a b [] there = absurd (omega (arith, there))
  taken a b (k ∷ ks) there = go (eq a k) refl (taken a b ks)
    where
      go : (t : Bool) → eq a k ≡ t → (0 < count_by (eq a) ks → cond (eq b a) 1 0 + count_by (eq b) (remove_key (eq a) ks) ≡ count_by (eq b) ks)
          → cond (eq b a) 1 0 + count_by (eq b) (cond t ks (k ∷ remove_key (eq a) ks)) ≡ count_by (eq b) (k ∷ ks)
      go true e rest =
          let is : cond {A = ℕ} (eq b a) 1 0 ≡ cond (eq b k) 1 0 = ap (λ (x : K). cond {A = ℕ} (eq b x) 1 0) (same a k e) in
          omega (arith, is, sum_by-cons (λ (x : K). cond {A = ℕ} (eq b x) 1 0) k ks)
      go false e rest =
          let none : cond {A = ℕ} (eq a k) 1 0 ≡ 0 = rw e refl in
          let more : cond (eq b a) 1 0 + count_by (eq b) (remove_key (eq a) ks) ≡ count_by (eq b) ks =
          rest (omega (arith, there, none, sum_by-cons (λ (x : K). cond {A = ℕ} (eq a x) 1 0) k ks)) in
          omega (
            arith,
            more,
            sum_by-cons (λ (x : K). cond {A = ℕ} (eq b x) 1 0) k ks,
            sum_by-cons (λ (x : K). cond {A = ℕ} (eq b x) 1 0) k (remove_key (eq a) ks),
          )

slot-same : (a b : BusSlot) → slot_eq a b ≡ true → a ≡ b
slot-same a b e =
    let split = and_parts (eqb a.bus b.bus) (eqb a.slot b.slot) e in
    let bus : a.bus ≡ b.bus = eqb-true a.bus b.bus split.0 in
    let slot : a.slot ≡ b.slot = eqb-true a.slot b.slot split.1 in
    rw (bus, slot) refl

range-same : (a b : Range) → range_eq a b ≡ true → a ≡ b
range-same a b e =
    let split = and_parts (eqb a.at b.at) (eqb a.size b.size) e in
    let at : a.at ≡ b.at = eqb-true a.at b.at split.0 in
    let size : a.size ≡ b.size = eqb-true a.size b.size split.1 in
    rw (at, size) refl

-- one claim ends that is held
counted-without : (x y : Claimed) (h : ClaimsTaken) → 0 < counted x h → cond (claim_eq y x) 1 0 + counted y (without_claim x h) ≡ counted y h
counted-without (on.Device a) (on.Device b) h there = taken bytes_eq (λ x y. (bytes_eq-Decides x y).0) a b h.devices there
counted-without (on.Device a) (on.Slot b) h there = omega arith
counted-without (on.Device a) (on.Ring b) h there = omega arith
counted-without (on.Device a) (on.Backend b) h there = omega arith
counted-without (on.Device a) (on.Range b) h there = omega arith
counted-without (on.Slot a) (on.Device b) h there = omega arith
counted-without (on.Slot a) (on.Slot b) h there = taken slot_eq slot-same a b h.slots there
counted-without (on.Slot a) (on.Ring b) h there = omega arith
counted-without (on.Slot a) (on.Backend b) h there = omega arith
counted-without (on.Slot a) (on.Range b) h there = omega arith
counted-without (on.Ring a) (on.Device b) h there = omega arith
counted-without (on.Ring a) (on.Slot b) h there = omega arith
counted-without (on.Ring a) (on.Ring b) h there = taken bytes_eq (λ x y. (bytes_eq-Decides x y).0) a b h.rings there
counted-without (on.Ring a) (on.Backend b) h there = omega arith
counted-without (on.Ring a) (on.Range b) h there = omega arith
counted-without (on.Backend a) (on.Device b) h there = omega arith
counted-without (on.Backend a) (on.Slot b) h there = omega arith
counted-without (on.Backend a) (on.Ring b) h there = omega arith
counted-without (on.Backend a) (on.Backend b) h there = taken eqb eqb-true a b h.backends there
counted-without (on.Backend a) (on.Range b) h there = omega arith
counted-without (on.Range a) (on.Device b) h there = omega arith
counted-without (on.Range a) (on.Slot b) h there = omega arith
counted-without (on.Range a) (on.Ring b) h there = omega arith
counted-without (on.Range a) (on.Backend b) h there = omega arith
counted-without (on.Range a) (on.Range b) h there = taken range_eq range-same a b h.ranges there

claim-self : (x : Claimed) → claim_eq x x ≡ true
claim-self (on.Device a) = (bytes_eq-Decides a a).1 refl
claim-self (on.Slot a) = slot_eq-same a
claim-self (on.Ring a) = (bytes_eq-Decides a a).1 refl
claim-self (on.Backend a) = eqb-same a
claim-self (on.Range a) = range_eq-same a

-- a claim that is perhaps there ends
one-without : (o : Option Claimed) (h : ClaimsTaken) → ((x : Claimed) → one x o ≤ counted x h) → (x : Claimed)
    → one x o + counted x (without_one o h) ≡ counted x h
one-without None h there x = omega arith
one-without (Some y) h there x =
    let self : cond {A = ℕ} (claim_eq y y) 1 0 ≡ 1 = rw (claim-self y) refl in
    counted-without y x h (omega (arith, self, there y))

-- those of a body end
pub kept-without : (k : KeptSet) (h : ClaimsTaken) → ((x : Claimed) → kept_times x k ≤ counted x h) → (x : Claimed)
    → kept_times x k + counted x (without_kept k h) ≡ counted x h
kept-without k h there x =
    let h1 = without_one k.slot h in
    let h2 = without_one k.ring h1 in
    let h3 = without_one k.backend h2 in
    let a : (y : Claimed) → one y k.slot + counted y h1 ≡ counted y h = one-without k.slot h (λ y. omega (arith, there y)) in
    let b : (y : Claimed) → one y k.ring + counted y h2 ≡ counted y h1 = one-without k.ring h1 (λ y. omega (arith, there y, a y)) in
    let c : (y : Claimed) → one y k.backend + counted y h3 ≡ counted y h2 = one-without k.backend h2 (λ y. omega (arith, there y, a y, b y)) in
    let d : (y : Claimed) → one y k.range + counted y (without_one k.range h3) ≡ counted y h3 =
    one-without k.range h3 (λ y. omega (arith, there y, a y, b y, c y)) in
    omega (arith, a x, b x, c x, d x)

-- a sum over rows without the one of a birth, whose weak links are emptied
module _ (f : Key × Content → ℕ) (n : ℕ) (plain : (row : Key × Content) → f (forgets n row) ≡ f row) where
  sum-above : (above last : ℕ) (rows : List (Key × Content)) → n ≤ above → Rises above (births rows) last
      → sum_by f (map (forgets n) (without n rows)) ≡ sum_by f rows
  sum-above above last [] le rises = refl
  sum-above above last (row ∷ rows) le rises =
      let up : above < row.0.birth = rises.0 in
      let other : eqb row.0.birth n ≡ false = grind arith in
      let rest : sum_by f (map (forgets n) (without n rows)) ≡ sum_by f rows = sum-above row.0.birth last rows (omega arith) rises.1 in
      rw other (omega (arith, rest, plain row, sum_by-cons f row rows, sum_by-cons f (forgets n row) (map (forgets n) (without n rows))))

  pub sum-ended : (above last : ℕ) (rows : List (Key × Content)) → Rises above (births rows) last
      → (c : Content) → object_at rows n ≡ Some c → ((key : Key) → f (key, c) ≡ f (record { index = 0; birth = 0 }, c))
      → sum_by f rows ≡ f (record { index = 0; birth = 0 }, c) + sum_by f (map (forgets n) (without n rows))
  sum-ended above last [] rises c there flat = absurd (cc there)
  sum-ended above last (row ∷ rows) rises c there flat = go (eqb row.0.birth n) refl (sum-ended row.0.birth last rows rises.1 c)
    where
      go : (t : Bool) → eqb row.0.birth n ≡ t → (object_at rows n ≡ Some c → ((key : Key) → f (key, c) ≡ f (record { index = 0; birth = 0 }, c))
          → sum_by f rows ≡ f (record { index = 0; birth = 0 }, c) + sum_by f (map (forgets n) (without n rows)))
          → sum_by f (row ∷ rows) ≡ f (record { index = 0; birth = 0 }, c) + sum_by f (map (forgets n) (without n (row ∷ rows)))
      go true e later =
          let same : row.0.birth ≡ n = eqb-true row.0.birth n e in
          let here : row.1 ≡ c = cc (rw e at there) in
          let value : f row ≡ f (record { index = 0; birth = 0 }, c) = ap (λ (d : Content). f (row.0, d)) here ∙ flat row.0 in
          let rest : sum_by f (map (forgets n) (without n rows)) ≡ sum_by f rows = sum-above row.0.birth last rows (omega arith) rises.1 in
          rw e (omega (arith, value, rest, sum_by-cons f row rows))
      go false e later =
          let rest = later (rw e at there) flat in
          rw e (omega (arith, rest, plain row, sum_by-cons f row rows, sum_by-cons f (forgets n row) (map (forgets n) (without n rows))))

-- an object ends: the claims that it keeps end with it, and the book stays right
pub book-ended : (out : List Claimed) (v : Objects) → IsHeap v → (n : ℕ) (c : Content) → content_of v n ≡ Some c → IsBook out v → IsBook out (ended n c v)
book-ended out v good n c there book x =
    let device : Option Claimed = option_map on.Device c.device_id in
    let parts : (y : Claimed) → sum_by (owned y) v.rows ≡ (kept_times y (kept_of c.body) + one y device) + sum_by (owned y)
    (map (forgets n) (without n v.rows)) = (λ y. sum-ended (owned y) n (λ row. refl) 0 v.born v.rows good.rising c there (λ key. refl)) in
    let body : (y : Claimed) → kept_times y (kept_of c.body) + counted y (without_kept (kept_of c.body) v.claims) ≡ counted y v.claims =
    kept-without (kept_of c.body) v.claims (λ y. omega (arith, book y, parts y)) in
    let left = one-without device (without_kept (kept_of c.body) v.claims) (λ y. omega (arith, book y, parts y, body y)) x in
    omega (arith, left, body x, book x, parts x)

-- an object is changed, and keeps what it keeps
pub sum-edit : (f : Key × Content → ℕ) (n : ℕ) (change : Content → Content) → ((row : Key × Content) → f (row.0, change row.1) ≡ f row)
    → (rows : List (Key × Content)) → sum_by f (edit n change rows) ≡ sum_by f rows
sum-edit f n change same [] = refl
sum-edit f n change same (row ∷ rows) =
    let here = go (eqb row.0.birth n) in
    let rest = sum-edit f n change same rows in
    omega (arith, here, rest, sum_by-cons f row rows, sum_by-cons f (edited n change row) (edit n change rows))
  where
    go : (t : Bool) → f (cond t (row.0, change row.1) row) ≡ f row
    go true = same row
    go false = refl

-- how often an object keeps a claim, by its body and the id of its device
abbrev owned_by : Claimed → Body × Option (List ℕ) → ℕ
owned_by x p = kept_times x (kept_of p.0) + one x (option_map on.Device p.1)

pub book-edit : (out : List Claimed) (v : Objects) (n : ℕ) (change : Content → Content)
    → ((c : Content) → ◌≡◌ {A = Body × Option (List ℕ)} ((change c).body, (change c).device_id) (c.body, c.device_id)) → IsBook out v
    → IsBook out (with_edit n change v)
book-edit out v n change same book x =
    let sums : sum_by (owned x) (edit n change v.rows) ≡ sum_by (owned x) v.rows = sum-edit (owned x) n change (λ row. ap (owned_by x) (same row.1)) v.rows in
    omega (arith, book x, sums)

-- the object of a birth is changed: the sum has what it is now in place of what it was
module _ (f : Key × Content → ℕ) (n : ℕ) (change : Content → Content) where
  sum-higher : (above last : ℕ) (rows : List (Key × Content)) → n ≤ above → Rises above (births rows) last → sum_by f (edit n change rows) ≡ sum_by f rows
  sum-higher above last [] le rises = refl
  sum-higher above last (row ∷ rows) le rises =
      let up : above < row.0.birth = rises.0 in
      let other : eqb row.0.birth n ≡ false = grind arith in
      let rest : sum_by f (edit n change rows) ≡ sum_by f rows = sum-higher row.0.birth last rows (omega arith) rises.1 in
      rw other (omega (arith, rest, sum_by-cons f row rows, sum_by-cons f row (edit n change rows)))

  pub sum-changed : (above last : ℕ) (rows : List (Key × Content)) → Rises above (births rows) last → (c : Content) → object_at rows n ≡ Some c
      → ((key : Key) (d : Content) → f (key, d) ≡ f (record { index = 0; birth = 0 }, d))
      → sum_by f (edit n change rows) + f (record { index = 0; birth = 0 }, c) ≡ sum_by f rows + f (record { index = 0; birth = 0 }, change c)
  sum-changed above last [] rises c there flat = absurd (cc there)
  sum-changed above last (row ∷ rows) rises c there flat = go (eqb row.0.birth n) refl (sum-changed row.0.birth last rows rises.1 c)
    where
      go : (t : Bool) → eqb row.0.birth n ≡ t → (object_at rows n ≡ Some c → ((key : Key) (d : Content) → f (key, d) ≡ f (record { index = 0; birth = 0 }, d))
          → sum_by f (edit n change rows) + f (record { index = 0; birth = 0 }, c) ≡ sum_by f rows + f (record { index = 0; birth = 0 }, change c))
          → sum_by f (edit n change (row ∷ rows)) + f (record { index = 0; birth = 0 }, c)
          ≡ sum_by f (row ∷ rows) + f (record { index = 0; birth = 0 }, change c)
      go true e later =
          let same : row.0.birth ≡ n = eqb-true row.0.birth n e in
          let here : row.1 ≡ c = cc (rw e at there) in
          let old : f row ≡ f (record { index = 0; birth = 0 }, c) = ap (λ (d : Content). f (row.0, d)) here ∙ flat row.0 c in
          let new : f (row.0, change row.1) ≡ f (record { index = 0; birth = 0 }, change c) =
          ap (λ (d : Content). f (row.0, change d)) here ∙ flat row.0 (change c) in
          let rest : sum_by f (edit n change rows) ≡ sum_by f rows = sum-higher row.0.birth last rows (omega arith) rises.1 in
          rw e (omega (arith, old, new, rest, sum_by-cons f row rows, sum_by-cons f (row.0, change row.1) (edit n change rows)))
      go false e later =
          let rest = later (rw e at there) flat in
          rw e (omega (arith, rest, sum_by-cons f row rows, sum_by-cons f row (edit n change rows)))

-- an object takes claims that were out: it keeps each of them once more
pub book-put : (xs out : List Claimed) (v : Objects) → IsHeap v → (n : ℕ) (change : Content → Content) (c : Content) → content_of v n ≡ Some c
    → ((x : Claimed) → owned x (record { index = 0; birth = 0 }, change c) ≡ count_by (claim_eq x) xs + owned x (record { index = 0; birth = 0 }, c))
    → IsBook (xs ++ out) v → IsBook out (with_edit n change v)
book-put xs out v good n change c there more book x =
    let sums : sum_by (owned x) (edit n change v.rows) + owned x (record { index = 0; birth = 0 }, c) ≡ sum_by (owned x) v.rows
    + owned x (record { index = 0; birth = 0 }, change c) = sum-changed (owned x) n change 0 v.born v.rows good.rising c there (λ key d. refl) in
    omega (arith, book x, sums, more x, sum_by-append (λ (y : Claimed). cond {A = ℕ} (claim_eq x y) 1 0) xs out)

-- one key more at the end of a list
module _ {K : Type 0} (eq : K → K → Bool) where
  one-more : (a b : K) (ks : List K) → count_by (eq b) (ks ++ a ∷ []) ≡ cond (eq b a) 1 0 + count_by (eq b) ks
  one-more a b ks = omega (arith, sum_by-append (λ (x : K). cond {A = ℕ} (eq b x) 1 0) ks (a ∷ []), sum_by-cons (λ (x : K). cond {A = ℕ} (eq b x) 1 0) a [])

-- and one range more by rising addresses
range-more : (a b : Range) (rs : List Range) → count_by (range_eq b) (with_range a rs) ≡ cond (range_eq b a) 1 0 + count_by (range_eq b) rs
range-more a b [] = omega (arith, sum_by-cons (λ (x : Range). cond {A = ℕ} (range_eq b x) 1 0) a [])
range-more a b (r ∷ rs) = go (nat_lt a.at r.at) (range-more a b rs)
  where
    go : (t : Bool) → count_by (range_eq b) (with_range a rs) ≡ cond (range_eq b a) 1 0 + count_by (range_eq b) rs
        → count_by (range_eq b) (cond t (a ∷ r ∷ rs) (r ∷ with_range a rs)) ≡ cond (range_eq b a) 1 0 + count_by (range_eq b) (r ∷ rs)
    go true rest = omega (arith, sum_by-cons (λ (x : Range). cond {A = ℕ} (range_eq b x) 1 0) a (r ∷ rs))
    go false rest = omega (
      arith,
      rest,
      sum_by-cons (λ (x : Range). cond {A = ℕ} (range_eq b x) 1 0) r rs,
      sum_by-cons (λ (x : Range). cond {A = ℕ} (range_eq b x) 1 0) r (with_range a rs),
    )

-- one claim more is held
counted-with : (x y : Claimed) (h : ClaimsTaken) → counted y (with_claim x h) ≡ cond (claim_eq y x) 1 0 + counted y h
counted-with (on.Device a) (on.Device b) h = one-more bytes_eq a b h.devices
counted-with (on.Device a) (on.Slot b) h = omega arith
counted-with (on.Device a) (on.Ring b) h = omega arith
counted-with (on.Device a) (on.Backend b) h = omega arith
counted-with (on.Device a) (on.Range b) h = omega arith
counted-with (on.Slot a) (on.Device b) h = omega arith
counted-with (on.Slot a) (on.Slot b) h = one-more slot_eq a b h.slots
counted-with (on.Slot a) (on.Ring b) h = omega arith
counted-with (on.Slot a) (on.Backend b) h = omega arith
counted-with (on.Slot a) (on.Range b) h = omega arith
counted-with (on.Ring a) (on.Device b) h = omega arith
counted-with (on.Ring a) (on.Slot b) h = omega arith
counted-with (on.Ring a) (on.Ring b) h = one-more bytes_eq a b h.rings
counted-with (on.Ring a) (on.Backend b) h = omega arith
counted-with (on.Ring a) (on.Range b) h = omega arith
counted-with (on.Backend a) (on.Device b) h = omega arith
counted-with (on.Backend a) (on.Slot b) h = omega arith
counted-with (on.Backend a) (on.Ring b) h = omega arith
counted-with (on.Backend a) (on.Backend b) h = one-more eqb a b h.backends
counted-with (on.Backend a) (on.Range b) h = omega arith
counted-with (on.Range a) (on.Device b) h = omega arith
counted-with (on.Range a) (on.Slot b) h = omega arith
counted-with (on.Range a) (on.Ring b) h = omega arith
counted-with (on.Range a) (on.Backend b) h = omega arith
counted-with (on.Range a) (on.Range b) h = range-more a b h.ranges

-- a claim is taken: it is out
pub book-taken : (x : Claimed) (out : List Claimed) (v : Objects) → IsBook out v → IsBook (x ∷ out) (record v { claims = with_claim x v.claims })
book-taken x out v book y = omega (arith, book y, counted-with x y v.claims, sum_by-cons (λ (z : Claimed). cond {A = ℕ} (claim_eq y z) 1 0) x out)

-- a claim that is out is given back
pub book-given : (x : Claimed) (out : List Claimed) (v : Objects) → IsBook (x ∷ out) v → IsBook out (record v { claims = without_claim x v.claims })
book-given x out v book y =
    let self : cond {A = ℕ} (claim_eq x x) 1 0 ≡ 1 = rw (claim-self x) refl in
    let split : (z : Claimed) → count_by (claim_eq z) (x ∷ out) ≡ cond (claim_eq z x) 1 0 + count_by (claim_eq z) out =
    λ z. sum_by-cons (λ (w : Claimed). cond {A = ℕ} (claim_eq z w) 1 0) x out in
    let less = counted-without x y v.claims (omega (arith, self, book x, split x)) in
    omega (arith, less, book y, split y)
