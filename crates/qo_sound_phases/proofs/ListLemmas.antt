-- Lists of numbers without repeats, and what is noted of each of them.
use Rattle.std.proofs.Common.{◌≡◌, refl, ap, sym, subst, ◌∙◌, ℕ, Bool, true, false, ◌&&◌, ◌||◌, ◌==◌, eqb, List, [], ◌∷◌, ◌++◌, filter, map, Some, None, arith}
use Rattle.qo_model.proofs.Common.{if◌then◌else◌, AllByRecursion, IsDistinct, Act, among, did}
use Rattle.qo_model.specs.declared.notes.Deed.TheVariants.{Did}
use Rattle.std.specs.List.{flat_map}
use Rattle.std.proofs.lemmas.Bool.{eqb-true, eq-eqb}
use Rattle.std.proofs.lemmas.List.Folds.{list_any-append}
use Rattle.std.proofs.Math.Bool.{or-true, and-false}
use Rattle.qo_model.proofs.AmongLemmas.{among-apart}
use Rattle.qo_sound.proofs.RecordLemmas.{all-filter}
use Rattle.qo_sound.proofs.TestLemmas.{decide, clash, clash-back}
use Rattle.qo_sound_phases.specs.Phases.{phase_of, phases_of}

-- two tests that say the same
pub iff : (t u : Bool) → (t ≡ true → u ≡ true) → (u ≡ true → t ≡ true) → t ≡ u
iff true true f g = refl
iff true false f g = sym (f refl)
iff false true f g = g refl
iff false false f g = refl

pub among-append : (n : ℕ) (xs ys : List ℕ) → among (xs ++ ys) n ≡ among xs n || among ys n
among-append n xs ys = list_any-append (eqb n) xs ys

pub among-left : (n : ℕ) (xs ys : List ℕ) → among xs n ≡ true → among (xs ++ ys) n ≡ true
among-left n xs ys e = among-append n xs ys ∙ rw e refl

pub among-right : (n : ℕ) (xs ys : List ℕ) → among ys n ≡ true → among (xs ++ ys) n ≡ true
among-right n xs ys e = among-append n xs ys ∙ rw e (or-true (among xs n))

pub among-cases : (n : ℕ) (xs ys : List ℕ) {A : Type 0} → among (xs ++ ys) n ≡ true → (among xs n ≡ true → A) → (among ys n ≡ true → A) → A
among-cases n xs ys e f g = decide (among xs n) f (λ k. g (turn k))
  where
    turn : among xs n ≡ false → among ys n ≡ true
    turn k = let h : among xs n || among ys n ≡ true = sym (among-append n xs ys) ∙ e in rw k at h

pub one-among : (n : ℕ) → among (n ∷ []) n ≡ true
one-among n = rw (eq-eqb n n refl) refl

-- what passes a test
pub among-filter : (p : ℕ → Bool) (n : ℕ) (xs : List ℕ) → among (filter p xs) n ≡ among xs n && p n
among-filter p n [] = refl
among-filter p n (x ∷ xs) = go (p x) refl (eqb n x) refl (among-filter p n xs)
  where
    go : (t : Bool) → p x ≡ t → (u : Bool) → eqb n x ≡ u → among (filter p xs) n ≡ among xs n && p n → among (filter p (x ∷ xs)) n ≡ among (x ∷ xs) n && p n
    go true e true k rest = rw (e, k) (sym (ap p (eqb-true n x k) ∙ e))
    go true e false k rest = rw (e, k) rest
    go false e true k rest =
        let no : p n ≡ false = ap p (eqb-true n x k) ∙ e in
        rw (e, k) (rest ∙ rw no (and-false (among xs n)) ∙ sym no)
    go false e false k rest = rw (e, k) rest

pub distinct-filter : (p : ℕ → Bool) (xs : List ℕ) → IsDistinct eqb xs → IsDistinct eqb (filter p xs)
unfolding IsDistinct
distinct-filter p [] h = tt
distinct-filter p (x ∷ xs) h = go (p x) refl (distinct-filter p xs h.1)
  where
    go : (t : Bool) → p x ≡ t → IsDistinct eqb (filter p xs) → IsDistinct eqb (filter p (x ∷ xs))
    go true e rest = rw e (all-filter (λ y. eqb x y ≡ false) p xs h.0, rest)
    go false e rest = rw e rest

-- a number that is apart from a list is not among it
pub apart-among : (n : ℕ) (xs : List ℕ) → AllByRecursion (λ y. eqb n y ≡ false) xs → among xs n ≡ false
apart-among n [] h = refl
apart-among n (x ∷ xs) h = rw h.0 (apart-among n xs h.1)

-- lists without repeats, one after another, with nothing in both
pub distinct-append : (xs ys : List ℕ) → IsDistinct eqb xs → IsDistinct eqb ys → ((n : ℕ) → among xs n ≡ true → among ys n ≡ true → ⊥)
    → IsDistinct eqb (xs ++ ys)
unfolding IsDistinct
distinct-append [] ys h k apart = k
distinct-append (x ∷ xs) ys h k apart = (
  among-apart x (xs ++ ys) (none (among (xs ++ ys) x) refl),
  distinct-append xs ys h.1 k (λ n e f. apart n (rw e (or-true (eqb n x))) f),
)
  where
    none : (t : Bool) → among (xs ++ ys) x ≡ t → among (xs ++ ys) x ≡ false
    none false e = e
    none true e =
        among-cases x xs ys e (λ i. clash (sym i ∙ apart-among x xs h.0))
        (λ i. absurd (apart x (rw (eq-eqb x x refl) refl) i))

-- members of lists that are joined
pub record From (f : ℕ → List ℕ) (xs : List ℕ) (n : ℕ) : Type 0 where
  pub source : ℕ
  pub there : among xs source ≡ true
  pub comes : among (f source) n ≡ true

pub from-joined : (f : ℕ → List ℕ) (xs : List ℕ) (n : ℕ) → among (flat_map f xs) n ≡ true → From f xs n
from-joined f [] n e = clash-back e
from-joined f (x ∷ xs) n e =
    among-cases n (f x) (flat_map f xs) e
    (λ i. record { source = x; there = rw (eq-eqb x x refl) refl; comes = i })
    (λ i. more (from-joined f xs n i))
  where
    more : From f xs n → From f (x ∷ xs) n
    more h = record { source = h.source; there = rw h.there (or-true (eqb h.source x)); comes = h.comes }

pub joined-among : (f : ℕ → List ℕ) (xs : List ℕ) (m n : ℕ) → among xs m ≡ true → among (f m) n ≡ true → among (flat_map f xs) n ≡ true
joined-among f [] m n e i = clash-back e
joined-among f (x ∷ xs) m n e i = go (eqb m x) refl (joined-among f xs m n)
  where
    go : (t : Bool) → eqb m x ≡ t → (among xs m ≡ true → among (f m) n ≡ true → among (flat_map f xs) n ≡ true) → among (flat_map f (x ∷ xs)) n ≡ true
    go true p rest = among-left n (f x) (flat_map f xs) (subst (λ (k : ℕ). among (f k) n ≡ true) (eqb-true m x p) i)
    go false p rest = among-right n (f x) (flat_map f xs) (rest (rw p at e) i)

pub distinct-joined : (f : ℕ → List ℕ) (xs : List ℕ) → IsDistinct eqb xs → ((x : ℕ) → among xs x ≡ true → IsDistinct eqb (f x))
    → ((x y n : ℕ) → among xs x ≡ true → among xs y ≡ true → among (f x) n ≡ true → among (f y) n ≡ true → x ≡ y) → IsDistinct eqb (flat_map f xs)
unfolding IsDistinct
distinct-joined f [] h each apart = tt
distinct-joined f (x ∷ xs) h each apart =
    distinct-append (f x) (flat_map f xs) (each x (rw (eq-eqb x x refl) refl))
    (distinct-joined f xs h.1 (λ y e. each y (rw e (or-true (eqb y x))))
    (λ y z n e g. apart y z n (rw e (or-true (eqb y x))) (rw g (or-true (eqb z x)))))
    (λ n i j. meet n i (from-joined f xs n j))
  where
    meet : (n : ℕ) → among (f x) n ≡ true → From f xs n → ⊥
    meet n i s =
        let same : x ≡ s.source = apart x s.source n (rw (eq-eqb x x refl) refl) (rw s.there (or-true (eqb s.source x))) i s.comes in
        clash (sym s.there ∙ ap (among xs) (sym same) ∙ apart-among x xs h.0)

-- what is noted of each
pub phases-did : (act : Act) → phase_of (Did act) ≡ Some act → (n : ℕ) (os : List ℕ) → IsDistinct eqb os
    → phases_of n (map (did act) os) ≡ (if among os n then act ∷ [] else [])
unfolding IsDistinct
phases-did act is n [] h = refl
phases-did act is n (o ∷ os) h = go (eqb n o) refl (phases-did act is n os h.1)
  where
    go : (t : Bool) → eqb n o ≡ t → phases_of n (map (did act) os) ≡ (if among os n then act ∷ [] else [])
        → phases_of n (map (did act) (o ∷ os)) ≡ (if among (o ∷ os) n then act ∷ [] else [])
    go true p rest =
        let own : (o == n) ≡ true = grind (arith, p) in
        let none : among os n ≡ false = ap (among os) (eqb-true n o p) ∙ apart-among o os h.0 in
        rw (own, is, p) (ap (λ (xs : List Act). act ∷ xs) (rest ∙ rw none refl))
    go false p rest = let other : (o == n) ≡ false = grind (arith, p) in rw (other, p) rest

pub phases-none : (act : Act) → phase_of (Did act) ≡ None → (n : ℕ) (os : List ℕ) → phases_of n (map (did act) os) ≡ []
phases-none act is n [] = refl
phases-none act is n (o ∷ os) = go (o == n) refl (phases-none act is n os)
  where
    go : (t : Bool) → (o == n) ≡ t → phases_of n (map (did act) os) ≡ [] → phases_of n (map (did act) (o ∷ os)) ≡ []
    go true p rest = rw (p, is) rest
    go false p rest = rw p rest
