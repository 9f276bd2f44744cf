-- No object is a child twice, said by counts.
use Rattle.std.proofs.Common.{nat_eq, ◌≡◌, refl, ap, ℕ, ◌<◌, ◌≤◌, Bool, true, false, cond, ◌==◌, List, [], ◌∷◌, ◌++◌, flat_map, sum_by, arith}
use Rattle.qo_model.proofs.Common.{AllByRecursion, IsDistinct, Record, Slot, plain, child, strong, weak, alias, children_in}
use Rattle.std.proofs.lemmas.Bool.{eq-eqb}
use Rattle.std.proofs.lemmas.List.Concat.{flat_map-cons}
use Rattle.std.proofs.lemmas.List.Sums.{sum_by-cons, sum_by-append}
use Rattle.qo_sound.proofs.SlotLemmas.{one_child}
use Rattle.qo_sound.proofs.FirmBoardLemmas.{parents_in}

-- one where a number is x
abbrev pub one_at : ℕ → ℕ → ℕ
one_at x m = cond {A = ℕ} (m == x) 1 0

-- how often x is among numbers
abbrev pub times : ℕ → List ℕ → ℕ
times x ns = sum_by (one_at x) ns

-- numbers that differ are there at most once
times-distinct : (ns : List ℕ) → IsDistinct nat_eq ns → (x : ℕ) → times x ns ≤ 1
unfolding IsDistinct
times-distinct [] h x = omega arith
times-distinct (n ∷ ns) h x = go (n == x) refl (times-distinct ns h.1 x)
  where
    apart : (y : ℕ) (ms : List ℕ) → AllByRecursion (λ z. nat_eq y z ≡ false) ms → times y ms ≡ 0
    apart y [] k = refl
    apart y (m ∷ ms) k =
        let differs : (m == y) ≡ false = grind (arith, k.0) in
        let none : one_at y m ≡ 0 = rw differs refl in
        omega (arith, none, apart y ms k.1, sum_by-cons (one_at y) m ms)

    go : (t : Bool) → (n == x) ≡ t → times x ns ≤ 1 → times x (n ∷ ns) ≤ 1
    go true p rest =
        let is : n ≡ x = grind (arith, p) in
        let one : one_at x n ≡ 1 = rw p refl in
        let none : times x ns ≡ 0 = rw is at (apart n ns h.0) in
        omega (arith, one, none, sum_by-cons (one_at x) n ns)
    go false p rest =
        let none : one_at x n ≡ 0 = rw p refl in
        omega (arith, none, rest, sum_by-cons (one_at x) n ns)

-- and numbers that are there at most once differ
distinct-times : (ns : List ℕ) → ((x : ℕ) → times x ns ≤ 1) → IsDistinct nat_eq ns
unfolding IsDistinct
distinct-times [] h = tt
distinct-times (n ∷ ns) h = (apart n ns none, distinct-times ns (λ x. omega (arith, h x, sum_by-cons (one_at x) n ns)))
  where
    none : times n ns ≡ 0
    none =
        let one : one_at n n ≡ 1 = rw (eq-eqb n n refl) refl in
        omega (arith, one, h n, sum_by-cons (one_at n) n ns)

    apart : (y : ℕ) (ms : List ℕ) → times y ms ≡ 0 → AllByRecursion (λ z. nat_eq y z ≡ false) ms
    apart y [] k = tt
    apart y (m ∷ ms) k = (go (m == y) refl, apart y ms (omega (arith, k, sum_by-cons (one_at y) m ms)))
      where
        go : (t : Bool) → (m == y) ≡ t → nat_eq y m ≡ false
        go true p =
            let one : one_at y m ≡ 1 = rw p refl in
            absurd (let clash : 0 < 0 = omega (arith, one, k, sum_by-cons (one_at y) m ms) in omega arith)
        go false p = grind (arith, p)

-- the children in slots, counted
times-children : (x : ℕ) (slots : List (List ℕ × Slot)) → times x (children_in slots) ≡ sum_by (one_child x) slots
times-children x [] = refl
times-children x ((name, plain v) ∷ slots) = omega (arith, times-children x slots, sum_by-cons (one_child x) (name, plain v) slots)
times-children x ((name, child m) ∷ slots) =
    omega (arith, times-children x slots, sum_by-cons (one_child x) (name, child m) slots, sum_by-cons (one_at x) m (children_in slots))
times-children x ((name, strong t target) ∷ slots) = omega (arith, times-children x slots, sum_by-cons (one_child x) (name, strong t target) slots)
times-children x ((name, weak t target) ∷ slots) = omega (arith, times-children x slots, sum_by-cons (one_child x) (name, weak t target) slots)
times-children x ((name, alias m property) ∷ slots) = omega (arith, times-children x slots, sum_by-cons (one_child x) (name, alias m property) slots)

abbrev all_children : List Record → List ℕ
all_children rs = flat_map (λ (r : Record). children_in r.slots) rs

times-all : (x : ℕ) (rs : List Record) → times x (all_children rs) ≡ sum_by (parents_in x) rs
times-all x [] = refl
times-all x (r ∷ rs) =
    let apart : times x (all_children (r ∷ rs)) ≡ times x (children_in r.slots ++ all_children rs) =
    ap (times x) (flat_map-cons (λ (y : Record). children_in y.slots) r rs) in
    omega (
      arith,
      apart,
      times-all x rs,
      times-children x r.slots,
      sum_by-append (one_at x) (children_in r.slots) (all_children rs),
      sum_by-cons (parents_in x) r rs,
    )

pub parents-from_distinct : (rs : List Record) → IsDistinct nat_eq (flat_map (λ (r : Record). children_in r.slots) rs) → (x : ℕ) → sum_by (parents_in x) rs ≤ 1
parents-from_distinct rs h x = omega (arith, times-all x rs, times-distinct (all_children rs) h x)

pub distinct-from_parents : (rs : List Record) → ((x : ℕ) → sum_by (parents_in x) rs ≤ 1)
    → IsDistinct nat_eq (flat_map (λ (r : Record). children_in r.slots) rs)
distinct-from_parents rs h = distinct-times (all_children rs) (λ x. omega (arith, times-all x rs, h x))
