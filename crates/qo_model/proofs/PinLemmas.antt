-- Pins: put in order and taken again, and left by what is released.
use Rattle.std.proofs.Common.{nat_eq, ◌≡◌, refl, ap, sym, subst, ◌∙◌, ℕ, ◌≤◌, leb, Bool, true, false, ◌==◌, eqb, List, [], ◌∷◌, Option, Some, None, arith}
use Rattle.qo_model.proofs.Common.{⊤, AllByRecursion, list_any, Board, severed_from, refs, after, finalize, put_in_order, unpin, without_first, without_pin}
use Rattle.std.proofs.lemmas.Bool.{eqb-true, eq-eqb}
use Rattle.qo_model.proofs.ComesToLemmas.{severed-comes}
use Rattle.qo_model.proofs.ReleaseScopeLemmas.{let_go-leaves, release_leaves}

-- numbers that never fall
abbrev pub IsUp : List ℕ → Type 0
IsUp [] = ⊤
IsUp (m ∷ ms) = AllByRecursion (λ k. m ≤ k) ms × IsUp ms

put-first : (n : ℕ) (ms : List ℕ) → AllByRecursion (λ k. n ≤ k) ms → put_in_order n ms ≡ n ∷ ms
put-first n [] h = refl
put-first n (m ∷ ms) h = go (leb m n) refl (put-first n ms h.1)
  where
    low : n ≤ m
    low = h.0

    go : (t : Bool) → leb m n ≡ t → put_in_order n ms ≡ n ∷ ms → put_in_order n (m ∷ ms) ≡ n ∷ m ∷ ms
    go true p rest =
        let same : m ≡ n = grind (arith, p, low) in
        rw (put_in_order, p, rest) (ap (λ (k : ℕ). k ∷ n ∷ ms) same ∙ ap (λ (k : ℕ). n ∷ k ∷ ms) (sym same))
    go false p rest = rw (put_in_order, p) refl

all-low : (n m : ℕ) (ms : List ℕ) → n ≤ m → AllByRecursion (λ k. m ≤ k) ms → AllByRecursion (λ k. n ≤ k) ms
all-low n m [] low h = tt
all-low n m (k ∷ ms) low h = let here : m ≤ k = h.0 in (omega arith, all-low n m ms low h.1)

pub put-back : (n : ℕ) (ms : List ℕ) → IsUp ms → without_first n (put_in_order n ms) ≡ ms
put-back n [] up = let own : (n == n) ≡ true = eq-eqb n n refl in rw (put_in_order, without_first, own) refl
put-back n (m ∷ ms) up = go (leb m n) refl (m == n) refl (put-back n ms up.1)
  where
    go : (t : Bool) → leb m n ≡ t → (u : Bool) → (m == n) ≡ u → without_first n (put_in_order n ms) ≡ ms → without_first n (put_in_order n (m ∷ ms)) ≡ m ∷ ms
    go true p true q rest =
        let same : m ≡ n = eqb-true m n q in
        rw (put_in_order, p, without_first, q)
        (put-first n ms (subst (λ (x : ℕ). AllByRecursion (λ k. x ≤ k) ms) same up.0) ∙ ap (λ (x : ℕ). x ∷ ms) (sym same))
    go true p false q rest = rw (put_in_order, p, without_first, q) (ap (λ (xs : List ℕ). m ∷ xs) rest)
    go false p u q rest = let own : (n == n) ≡ true = eq-eqb n n refl in rw (put_in_order, p, without_first, own) refl

put-all : (n x : ℕ) (ms : List ℕ) → x ≤ n → AllByRecursion (λ k. x ≤ k) ms → AllByRecursion (λ k. x ≤ k) (put_in_order n ms)
put-all n x [] low h = (low, tt)
put-all n x (m ∷ ms) low h = go (leb m n) refl (put-all n x ms low h.1)
  where
    go : (t : Bool) → leb m n ≡ t → AllByRecursion (λ k. x ≤ k) (put_in_order n ms) → AllByRecursion (λ k. x ≤ k) (put_in_order n (m ∷ ms))
    go true p rest = rw (put_in_order, p) (h.0, rest)
    go false p rest = rw (put_in_order, p) (low, h)

pub put-up : (n : ℕ) (ms : List ℕ) → IsUp ms → IsUp (put_in_order n ms)
put-up n [] up = (tt, tt)
put-up n (m ∷ ms) up = go (leb m n) refl (put-up n ms up.1)
  where
    go : (t : Bool) → leb m n ≡ t → IsUp (put_in_order n ms) → IsUp (put_in_order n (m ∷ ms))
    go true p rest = let low : m ≤ n = grind (arith, p) in rw (put_in_order, p) (put-all n m ms low up.0, rest)
    go false p rest = let low : n ≤ m = grind (arith, p) in rw (put_in_order, p) ((low, all-low n m ms low up.0), up)

pub put-among : (n : ℕ) (ms : List ℕ) → list_any (nat_eq n) (put_in_order n ms) ≡ true
put-among n [] = let own : eqb n n ≡ true = eq-eqb n n refl in rw (put_in_order, own) refl
put-among n (m ∷ ms) = go (leb m n) refl (eqb n m) refl (put-among n ms)
  where
    go : (t : Bool) → leb m n ≡ t → (u : Bool) → eqb n m ≡ u → list_any (nat_eq n) (put_in_order n ms) ≡ true
        → list_any (nat_eq n) (put_in_order n (m ∷ ms)) ≡ true
    go true p true q rest = rw (put_in_order, p, q) refl
    go true p false q rest = rw (put_in_order, p, q) rest
    go false p u q rest = let own : eqb n n ≡ true = eq-eqb n n refl in rw (put_in_order, p, own) refl

-- a release leaves the pins
pub release-pins : (b : Board) (o : Option ℕ) → (after finalize b o).pins ≡ b.pins
release-pins b None = refl
release-pins b (Some m) = go (refs b m == 0) refl
  where
    go : (t : Bool) → (refs b m == 0) ≡ t → (after finalize b (Some m)).pins ≡ b.pins
    go true p = rw (after, p) (release_leaves b m).pins
    go false p = rw (after, p) refl

pub unpin-pins : (b : Board) (n : ℕ) → list_any (nat_eq n) b.pins ≡ true → (unpin b n).pins ≡ without_first n b.pins
unfolding unpin
unpin-pins b n e = rw (unpin, e) (release-pins (without_pin b n) (Some n))

pub severed-pins : (places i n : ℕ) (b : Board) → (severed_from places i n b).pins ≡ b.pins
severed-pins places i n b = severed-comes (λ c. c.pins ≡ b.pins) n (λ c j t target e k. (let_go-leaves c n j).pins ∙ k) places i b refl
