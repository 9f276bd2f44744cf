-- Slots of one object: what is kept where one is let go, where one is changed, and where weak links are emptied.
use Rattle.std.proofs.Common.{◌≡◌, refl, ap, ap₂, sym, subst, ◌∙◌, ℕ, zero, suc, ◌+◌, ◌≤◌, Bool, true, false, cond, ◌==◌, eqb, List, [], ◌∷◌, map, slice_get, sum_by, Option, Some, None, arith}
use Rattle.qo_model.proofs.Common.{AllByRecursion, IsDistinct, cons_option, bytes_eq, codes, filter, is_clock_slot, Slot, plain, child, strong, weak, alias, changed_at, pointed, among, is_child, child_of, children_in, emptied, without_hold, forgotten_in}
use Rattle.std.proofs.lemmas.List.Sums.{sum_by-cons}
use Rattle.std.proofs.lemmas.Option.{same_Some}
use Rattle.std.proofs.Math.Bool.{or-true}
use Rattle.qo_model.proofs.EditLemmas.{left_of}

-- the names of slots
abbrev pub names_in : List (List ℕ × Slot) → List (List ℕ)
names_in slots = map (λ (s : List ℕ × Slot). s.0) slots

-- slots, each changed in the same way
abbrev pub each_slot : (Slot → Slot) → List (List ℕ × Slot) → List (List ℕ × Slot)
each_slot g slots = map (λ (s : List ℕ × Slot). (s.0, g s.1)) slots

names-dropped : (P : List ℕ → Type 0) (i : ℕ) (slots : List (List ℕ × Slot)) → AllByRecursion P (names_in slots)
    → AllByRecursion P (names_in (without_hold i slots))
names-dropped P i [] h = tt
names-dropped P zero (s ∷ slots) h = go (emptied s.1) refl
  where
    go : (o : Option Slot) → emptied s.1 ≡ o → AllByRecursion P (names_in (without_hold zero (s ∷ slots)))
    go None p = rw (without_hold, p) h.1
    go (Some left) p = rw (without_hold, p) h
names-dropped P (suc i) (s ∷ slots) h = (h.0, names-dropped P i slots h.1)

-- names that differ do so where a slot was let go
pub distinct-dropped : (i : ℕ) (slots : List (List ℕ × Slot)) → IsDistinct bytes_eq (names_in slots) → IsDistinct bytes_eq (names_in (without_hold i slots))
unfolding IsDistinct
distinct-dropped i [] h = tt
distinct-dropped zero (s ∷ slots) h = go (emptied s.1) refl
  where
    go : (o : Option Slot) → emptied s.1 ≡ o → IsDistinct bytes_eq (names_in (without_hold zero (s ∷ slots)))
    go None p = rw (without_hold, p) h.1
    go (Some left) p = rw (without_hold, p) h
distinct-dropped (suc i) (s ∷ slots) h = (names-dropped (λ name. bytes_eq s.0 name ≡ false) i slots h.0, distinct-dropped i slots h.1)

pub names-changed : (g : Slot → Slot) (i : ℕ) (slots : List (List ℕ × Slot)) → names_in (changed_at g i slots) ≡ names_in slots
names-changed g i [] = refl
names-changed g zero (s ∷ slots) = refl
names-changed g (suc i) (s ∷ slots) = ap (λ (ns : List (List ℕ)). s.0 ∷ ns) (names-changed g i slots)

pub names-each : (g : Slot → Slot) (slots : List (List ℕ × Slot)) → names_in (each_slot g slots) ≡ names_in slots
names-each g [] = refl
names-each g (s ∷ slots) = ap (λ (ns : List (List ℕ)). s.0 ∷ ns) (names-each g slots)

-- a fact of each slot is kept where one is let go, if it is of what is left
pub all-dropped : (P : Slot → Type 0) → ((s left : Slot) → emptied s ≡ Some left → P s → P left) → (i : ℕ) (slots : List (List ℕ × Slot))
    → AllByRecursion (λ (s : List ℕ × Slot). P s.1) slots → AllByRecursion (λ (s : List ℕ × Slot). P s.1) (without_hold i slots)
all-dropped P left_is i [] h = tt
all-dropped P left_is zero (s ∷ slots) h = go (emptied s.1) refl
  where
    go : (o : Option Slot) → emptied s.1 ≡ o → AllByRecursion (λ (x : List ℕ × Slot). P x.1) (without_hold zero (s ∷ slots))
    go None p = rw (without_hold, p) h.1
    go (Some left) p = rw (without_hold, p) (left_is s.1 left p h.0, h.1)
all-dropped P left_is (suc i) (s ∷ slots) h = (h.0, all-dropped P left_is i slots h.1)

-- and where one is changed, if it is of the changed one
pub all-changed : (P : Slot → Type 0) (g : Slot → Slot) (i : ℕ) (slots : List (List ℕ × Slot))
    → ((s : List ℕ × Slot) → slice_get slots i ≡ Some s → P s.1 → P (g s.1)) → AllByRecursion (λ (s : List ℕ × Slot). P s.1) slots
    → AllByRecursion (λ (s : List ℕ × Slot). P s.1) (changed_at g i slots)
all-changed P g i [] is h = tt
all-changed P g zero (s ∷ slots) is h = (is s refl h.0, h.1)
all-changed P g (suc i) (s ∷ slots) is h = (h.0, all-changed P g i slots is h.1)

-- the children stay where no child slot is let go, and else none comes
pub children-dropped : (y i : ℕ) (slots : List (List ℕ × Slot)) → among (children_in (without_hold i slots)) y ≡ true → among (children_in slots) y ≡ true
children-dropped y i [] e = e
children-dropped y zero ((name, plain v) ∷ slots) e = e
children-dropped y zero ((name, child m) ∷ slots) e = rw e (or-true (eqb y m))
children-dropped y zero ((name, strong t target) ∷ slots) e = e
children-dropped y zero ((name, weak t target) ∷ slots) e = e
children-dropped y zero ((name, alias m property) ∷ slots) e = e
children-dropped y (suc i) ((name, plain v) ∷ slots) e = children-dropped y i slots e
children-dropped y (suc i) ((name, child m) ∷ slots) e = go (eqb y m) refl (children-dropped y i slots)
  where
    go : (t : Bool) → eqb y m ≡ t → (among (children_in (without_hold i slots)) y ≡ true → among (children_in slots) y ≡ true)
        → among (m ∷ children_in slots) y ≡ true
    go true p rest = rw p refl
    go false p rest = rw p (rest (rw p at e))
children-dropped y (suc i) ((name, strong t target) ∷ slots) e = children-dropped y i slots e
children-dropped y (suc i) ((name, weak t target) ∷ slots) e = children-dropped y i slots e
children-dropped y (suc i) ((name, alias m property) ∷ slots) e = children-dropped y i slots e

pub children-stay : (i : ℕ) (slots : List (List ℕ × Slot)) (s : List ℕ × Slot) → slice_get slots i ≡ Some s → child_of s.1 ≡ None
    → children_in (without_hold i slots) ≡ children_in slots
children-stay i [] s e none = refl
children-stay zero ((name, plain v) ∷ slots) s e none = refl
children-stay zero ((name, child m) ∷ slots) s e none =
    let clash : Some m ≡ None = ap (λ (x : List ℕ × Slot). child_of x.1) (same_Some (name, child m) s e) ∙ none in
    absurd cc
children-stay zero ((name, strong t target) ∷ slots) s e none = refl
children-stay zero ((name, weak t target) ∷ slots) s e none = refl
children-stay zero ((name, alias m property) ∷ slots) s e none = refl
children-stay (suc i) (x ∷ slots) s e none = ap (cons_option (child_of x.1)) (children-stay i slots s e none)

-- they stay where the changed slots name the same children
pub children-each : (g : Slot → Slot) → ((s : Slot) → child_of (g s) ≡ child_of s) → (slots : List (List ℕ × Slot))
    → children_in (each_slot g slots) ≡ children_in slots
children-each g same [] = refl
children-each g same (s ∷ slots) = ap₂ cons_option (same s.1) (children-each g same slots)

pub children-changed : (g : Slot → Slot) → ((s : Slot) → child_of (g s) ≡ child_of s) → (i : ℕ) (slots : List (List ℕ × Slot))
    → children_in (changed_at g i slots) ≡ children_in slots
children-changed g same i [] = refl
children-changed g same zero (s ∷ slots) = ap (λ (o : Option ℕ). cons_option o (children_in slots)) (same s.1)
children-changed g same (suc i) (s ∷ slots) = ap (cons_option (child_of s.1)) (children-changed g same i slots)

-- the change of one slot changes a sum by this slot alone
pub sum-changed : (f : List ℕ × Slot → ℕ) (g : Slot → Slot) (i : ℕ) (slots : List (List ℕ × Slot)) (s : List ℕ × Slot) → slice_get slots i ≡ Some s
    → sum_by f (changed_at g i slots) + f s ≡ sum_by f slots + f (s.0, g s.1)
sum-changed f g i [] s e = cc
sum-changed f g zero (x ∷ slots) s e =
    let is : x ≡ s = same_Some x s e in
    subst (λ (y : List ℕ × Slot). sum_by f ((y.0, g y.1) ∷ slots) + f s ≡ sum_by f (y ∷ slots) + f (s.0, g s.1)) (sym is)
    (omega (arith, sum_by-cons f (s.0, g s.1) slots, sum_by-cons f s slots))
sum-changed f g (suc i) (x ∷ slots) s e = omega (arith, sum-changed f g i slots s e, sum_by-cons f x (changed_at g i slots), sum_by-cons f x slots)

-- and no sum, where it changes no slot's number
pub sum-changed_same : (f : List ℕ × Slot → ℕ) (g : Slot → Slot) → ((s : List ℕ × Slot) → f (s.0, g s.1) ≡ f s) → (i : ℕ) (slots : List (List ℕ × Slot))
    → sum_by f (changed_at g i slots) ≡ sum_by f slots
sum-changed_same f g same i [] = refl
sum-changed_same f g same zero (s ∷ slots) = omega (arith, same s, sum_by-cons f (s.0, g s.1) slots, sum_by-cons f s slots)
sum-changed_same f g same (suc i) (s ∷ slots) = omega (arith, sum-changed_same f g same i slots, sum_by-cons f s (changed_at g i slots), sum_by-cons f s slots)

pub sum-each_same : (f : List ℕ × Slot → ℕ) (g : Slot → Slot) → ((s : List ℕ × Slot) → f (s.0, g s.1) ≡ f s) → (slots : List (List ℕ × Slot))
    → sum_by f (each_slot g slots) ≡ sum_by f slots
sum-each_same f g same [] = refl
sum-each_same f g same (s ∷ slots) = omega (arith, same s, sum-each_same f g same slots, sum_by-cons f (s.0, g s.1) (each_slot g slots), sum_by-cons f s slots)

-- one where a slot is a child slot of x
abbrev pub one_child : ℕ → List ℕ × Slot → ℕ
one_child x s = cond {A = ℕ} (is_child x s.1) 1 0

pub left-child : (x : ℕ) (s : List ℕ × Slot) → left_of (one_child x) s ≤ one_child x s
left-child x (name, plain v) = omega arith
left-child x (name, child m) = omega arith
left-child x (name, strong t target) = omega arith
left-child x (name, weak t target) = omega arith
left-child x (name, alias m property) = omega arith

-- an emptied weak link, and a link that points elsewhere, name no other child
pub child-forgotten : (n : ℕ) (s : Slot) → child_of (forgotten_in n s) ≡ child_of s
child-forgotten n (plain v) = refl
child-forgotten n (child m) = refl
child-forgotten n (strong t target) = refl
child-forgotten n (weak t None) = refl
child-forgotten n (weak t (Some m)) = refl
child-forgotten n (alias m property) = refl

pub child-pointed : (m : ℕ) (s : Slot) → child_of (pointed m s) ≡ child_of s
child-pointed m (plain v) = refl
child-pointed m (child k) = refl
child-pointed m (strong t target) = refl
child-pointed m (weak t target) = refl
child-pointed m (alias k property) = refl

-- a child slot by what it names
pub is_child-of : (x : ℕ) (s : Slot) → is_child x s ≡ elim (child_of s) as (λ _. Bool) [ None ↦ false | Some m ↦ m == x ]
is_child-of x (plain v) = refl
is_child-of x (child m) = refl
is_child-of x (strong t target) = refl
is_child-of x (weak t target) = refl
is_child-of x (alias m property) = refl

-- a change that names the same children has the same child slots
pub one_child-same : (g : Slot → Slot) → ((s : Slot) → child_of (g s) ≡ child_of s) → (x : ℕ) (s : List ℕ × Slot) → one_child x (s.0, g s.1) ≡ one_child x s
one_child-same g same x s = ap (λ (t : Bool). cond {A = ℕ} t 1 0)
    (is_child-of x (g s.1) ∙ ap (λ (o : Option ℕ). elim o as (λ _. Bool) [ None ↦ false | Some m ↦ m == x ]) (same s.1) ∙ sym (is_child-of x s.1))

-- the children in slots of the clock's name stay with these changes

abbrev pub clocks_in : List (List ℕ × Slot) → List ℕ
clocks_in slots = children_in (filter is_clock_slot slots)

pub clocks-cons : (s t : List ℕ × Slot) (xs ys : List (List ℕ × Slot)) → s.0 ≡ t.0 → child_of s.1 ≡ child_of t.1 → clocks_in xs ≡ clocks_in ys
    → clocks_in (s ∷ xs) ≡ clocks_in (t ∷ ys)
clocks-cons s t xs ys named same rest = go (is_clock_slot t) refl
  where
    go : (b : Bool) → is_clock_slot t ≡ b → clocks_in (s ∷ xs) ≡ clocks_in (t ∷ ys)
    go true p =
        let q : is_clock_slot s ≡ true = ap (λ (name : List ℕ). bytes_eq name (codes "clk")) named ∙ p in
        rw (p, q) (ap₂ cons_option same rest)
    go false p =
        let q : is_clock_slot s ≡ false = ap (λ (name : List ℕ). bytes_eq name (codes "clk")) named ∙ p in
        rw (p, q) rest

pub clocks-each : (g : Slot → Slot) → ((s : Slot) → child_of (g s) ≡ child_of s) → (slots : List (List ℕ × Slot))
    → clocks_in (each_slot g slots) ≡ clocks_in slots
clocks-each g same [] = refl
clocks-each g same (s ∷ slots) = clocks-cons (s.0, g s.1) s (each_slot g slots) slots refl (same s.1) (clocks-each g same slots)

pub clocks-changed : (g : Slot → Slot) → ((s : Slot) → child_of (g s) ≡ child_of s) → (i : ℕ) (slots : List (List ℕ × Slot))
    → clocks_in (changed_at g i slots) ≡ clocks_in slots
clocks-changed g same i [] = refl
clocks-changed g same zero (s ∷ slots) = clocks-cons (s.0, g s.1) s slots slots refl (same s.1) refl
clocks-changed g same (suc i) (s ∷ slots) = clocks-cons s s (changed_at g i slots) slots refl refl (clocks-changed g same i slots)

-- a slot that names no child, or that has another name
pub data IsNoClock (s : List ℕ × Slot) : Type 0 where
  no_child : child_of s.1 ≡ None → IsNoClock s
  other_name : is_clock_slot s ≡ false → IsNoClock s

clocks-skip : (s : List ℕ × Slot) (xs : List (List ℕ × Slot)) → IsNoClock s → clocks_in (s ∷ xs) ≡ clocks_in xs
clocks-skip s xs (no_child none) = go (is_clock_slot s) refl
  where
    go : (b : Bool) → is_clock_slot s ≡ b → clocks_in (s ∷ xs) ≡ clocks_in xs
    go true p = rw p (ap (λ (o : Option ℕ). cons_option o (clocks_in xs)) none)
    go false p = rw p refl
clocks-skip s xs (other_name other) = rw other refl

pub clocks-stay : (i : ℕ) (slots : List (List ℕ × Slot)) (s : List ℕ × Slot) → slice_get slots i ≡ Some s → IsNoClock s
    → clocks_in (without_hold i slots) ≡ clocks_in slots
clocks-stay i [] s e none = refl
clocks-stay zero (x ∷ slots) s e none = go (emptied x.1) refl
  where
    is : x ≡ s
    is = same_Some x s e

    skip : IsNoClock x
    skip = subst IsNoClock (sym is) none

    left-none : (y left : Slot) → emptied y ≡ Some left → child_of left ≡ None
    left-none (plain v) left q = ap child_of (sym (same_Some (plain v) left q))
    left-none (child m) left q = absurd (let clash : None ≡ Some left = q in cc)
    left-none (strong t target) left q = ap child_of (sym (same_Some (strong t None) left q))
    left-none (weak t target) left q = ap child_of (sym (same_Some (weak t None) left q))
    left-none (alias m name) left q = ap child_of (sym (same_Some (alias m name) left q))

    go : (o : Option Slot) → emptied x.1 ≡ o → clocks_in (without_hold zero (x ∷ slots)) ≡ clocks_in (x ∷ slots)
    go None p = rw (without_hold, p) (sym (clocks-skip x slots skip))
    go (Some left) p = rw (without_hold, p) (clocks-skip (x.0, left) slots (no_child (left-none x.1 left p)) ∙ sym (clocks-skip x slots skip))
clocks-stay (suc i) (x ∷ slots) s e none = clocks-cons x x (without_hold i slots) slots refl refl (clocks-stay i slots s e none)

-- what is left of a slot that was let go stands at its place
pub kept-slot : (i : ℕ) (xs : List (List ℕ × Slot)) (own : List ℕ) (s left : Slot) → slice_get xs i ≡ Some (own, s) → emptied s ≡ Some left
    → slice_get (without_hold i xs) i ≡ Some (own, left)
kept-slot i [] own s left e stays = cc
kept-slot zero (x ∷ xs) own s left e stays =
    ap (λ (y : List ℕ × Slot). slice_get (without_hold zero (y ∷ xs)) 0) (same_Some x (own, s) e)
    ∙ ap (λ (o : Option Slot). slice_get (elim o as (λ _. List (List ℕ × Slot)) [ None ↦ xs | Some l ↦ (own, l) ∷ xs ]) 0) stays
kept-slot (suc i) (x ∷ xs) own s left e stays = kept-slot i xs own s left e stays
