-- The parts of a text, cut at its first comma.
use Rattle.std.proofs.Common.{◌≡◌, ◌≢◌, ◌==◌, ◌<◌, ℕ, suc, Bool, true, false, List, [], ◌∷◌, ◌++◌, length, take, get_or, refl, sym, ap, ◌∙◌, subst, arith, append_assoc, append-nil}
use Rattle.std.specs.List.{after_first, before_first, position_or_len}
use Rattle.std.proofs.lemmas.Bool.{eq-eqb, eqb-true, or_parts}
use Rattle.std.proofs.lemmas.List.{get_or-take, length-take-le}
use Rattle.std.proofs.lemmas.List.Sums.{fails_before_first, passes_at_first, split_at_first}
use Rattle.qo_text.specs.Joined.{first_with}
use Rattle.qo_text.specs.Spellings.{PartsAreSpelled, StandsBehind, doubled, joined}
use Rattle.qo_text.specs.Options.{before, holds, parts}

abbrev free : List ℕ → Bool
free xs = holds 44 xs

some_parts : (xs : List ℕ) → (p : List ℕ) × (ps : List (List ℕ)) × (parts xs ≡ p ∷ ps)
unfolding parts
some_parts [] = ([], [], refl)
some_parts (c ∷ []) = go (c == 44) refl where
  go : (t : Bool) → (c == 44) ≡ t → (p : List ℕ) × (ps : List (List ℕ)) × (parts (c ∷ []) ≡ p ∷ ps)
  go true e = ([], [] ∷ [], rw e refl)
  go false e = (c ∷ [], [], rw e refl)
some_parts (c ∷ d ∷ rest) = go (c == 44) refl (d == 44) refl (some_parts (d ∷ rest)) (some_parts rest) where
  go : (t : Bool) → (c == 44) ≡ t → (u : Bool) → (d == 44) ≡ u → (p : List ℕ) × (ps : List (List ℕ)) × (parts (d ∷ rest) ≡ p ∷ ps)
      → (p : List ℕ) × (ps : List (List ℕ)) × (parts rest ≡ p ∷ ps) → (p : List ℕ) × (ps : List (List ℕ)) × (parts (c ∷ d ∷ rest) ≡ p ∷ ps)
  go false e u f one two = (c ∷ one.0, one.1, rw (e, one.2) refl)
  go true e true f one two = (44 ∷ two.0, two.1, rw (e, f, two.2) refl)
  go true e false f one two = ([], parts (d ∷ rest), rw (e, f) refl)

no_front : (xs : List ℕ) → first_with [] (parts xs) ≡ parts xs
no_front xs = let s = some_parts xs in rw s.2 refl

before_with : (c : ℕ) (front : List ℕ) (ps : List (List ℕ)) → before c (first_with front ps) ≡ first_with (c ∷ front) ps
before_with c front [] = refl
before_with c front (p ∷ ps) = refl

-- what stands before a comma is the front of a part
pub front_of : (front rest : List ℕ) → free front ≡ false → parts (front ++ 44 ∷ rest) ≡ first_with front (parts (44 ∷ rest))
unfolding parts
front_of [] rest h = sym (no_front (44 ∷ rest))
front_of (c ∷ []) rest h =
    let p = or_parts (c == 44) _ h in
    let s = some_parts (44 ∷ rest) in
    rw (p.0, s.2) refl
front_of (c ∷ d ∷ front) rest h =
    let p = or_parts (c == 44) _ h in
    rw p.0 (ap (before c) (front_of (d ∷ front) rest p.1) ∙ before_with c (d ∷ front) (parts (44 ∷ rest)))

-- two commas are one in a part; one ends it
doubled_comma : (rest : List ℕ) → parts (44 ∷ 44 ∷ rest) ≡ before 44 (parts rest)
unfolding parts
doubled_comma rest = refl

pub ended : (rest : List ℕ) → ((more : List ℕ) → rest ≢ 44 ∷ more) → parts (44 ∷ rest) ≡ [] ∷ parts rest
unfolding parts
ended [] h = refl
ended (d ∷ rest) h = go (d == 44) refl where
  go : (t : Bool) → (d == 44) ≡ t → parts (44 ∷ d ∷ rest) ≡ [] ∷ parts (d ∷ rest)
  go true e = absurd (h rest (let is : d ≡ 44 = eqb-true d 44 e in ap (λ (x : ℕ). x ∷ rest) is))
  go false e = rw e refl

-- without a comma there is one
pub alone : (xs : List ℕ) → free xs ≡ false → parts xs ≡ xs ∷ []
unfolding parts
alone [] h = refl
alone (c ∷ []) h = let p = or_parts (c == 44) _ h in rw p.0 refl
alone (c ∷ d ∷ xs) h = let p = or_parts (c == 44) _ h in rw p.0 (ap (before c) (alone (d ∷ xs) p.1))

-- by the place of the first comma
any_none : (byte : ℕ) (xs : List ℕ) → ((k : ℕ) → k < length xs → (get_or xs k 0 == byte) ≡ false) → holds byte xs ≡ false
any_none byte [] h = refl
any_none byte (x ∷ xs) h = rw (h 0 (omega arith)) (any_none byte xs (λ k lt. h (suc k) (omega (arith, lt))))

pub free_all : (byte : ℕ) (xs : List ℕ) → position_or_len (λ (c : ℕ). c == byte) xs ≡ length xs → holds byte xs ≡ false
free_all byte xs e = any_none byte xs (λ k lt. fails_before_first (λ (c : ℕ). c == byte) xs k 0 (omega (arith, lt, e)))

pub cut_first : (xs : List ℕ) → position_or_len (λ (c : ℕ). c == 44) xs < length xs
    → (free (before_first (λ (c : ℕ). c == 44) xs) ≡ false) × (xs ≡ before_first (λ (c : ℕ). c == 44) xs ++ 44 ∷ after_first (λ (c : ℕ). c == 44) xs)
cut_first xs h =
    let at : ℕ = position_or_len (λ (c : ℕ). c == 44) xs in
    let size : length (take at xs) ≡ at = length-take-le at xs (omega (arith, h)) in
    let comma : get_or xs at 0 ≡ 44 = eqb-true (get_or xs at 0) 44 (passes_at_first (λ (c : ℕ). c == 44) xs 0 h) in (
      any_none 44 (take at xs) (λ k lt. let low : k < at = omega (arith, lt, size) in subst (λ x. (x == 44) ≡ false) (sym (get_or-take at xs k 0 low)) (fails_before_first (λ (c : ℕ). c == 44) xs k 0 low)),
      split_at_first (λ (c : ℕ). c == 44) xs 0 h ∙ ap (λ (x : ℕ). take at xs ++ (x ∷ after_first (λ (c : ℕ). c == 44) xs)) comma,
    )

-- more before the first part
pub twice : (a b : List ℕ) (ps : List (List ℕ)) → first_with a (first_with b ps) ≡ first_with (a ++ b) ps
twice a b [] = refl
twice a b (p ∷ ps) = ap (λ (x : List ℕ). x ∷ ps) (sym (append_assoc a b p))

pub begun : (xs : List ℕ) → first_with [] (parts xs) ≡ parts xs
begun xs = no_front xs

before_is : (c : ℕ) (rest : List ℕ) → before c (parts rest) ≡ first_with (c ∷ []) (parts rest)
before_is c rest = let s = some_parts rest in rw s.2 refl

-- a turn by two commas, and a turn by one
pub two : (part front more : List ℕ) → free front ≡ false → first_with part (parts (front ++ 44 ∷ 44 ∷ more)) ≡ first_with ((part ++ front) ++ 44 ∷ []) (parts more)
two part front more h =
    ap (first_with part) (front_of front (44 ∷ more) h ∙ ap (first_with front) (doubled_comma more ∙ before_is 44 more) ∙ twice front (44 ∷ []) (parts more))
    ∙ twice part (front ++ 44 ∷ []) (parts more) ∙ ap (λ (x : List ℕ). first_with x (parts more)) (sym (append_assoc part front (44 ∷ [])))

pub one : (part front rest : List ℕ) → free front ≡ false → ((more : List ℕ) → rest ≢ 44 ∷ more)
    → first_with part (parts (front ++ 44 ∷ rest)) ≡ (part ++ front) ∷ parts rest
one part front rest h none =
    ap (first_with part) (front_of front rest h ∙ ap (first_with front) (ended rest none)) ∙ ap (λ (x : List ℕ). (part ++ x) ∷ parts rest) (append-nil front)

pub last : (part rest : List ℕ) → free rest ≡ false → first_with part (parts rest) ≡ (part ++ rest) ∷ []
last part rest h = ap (first_with part) (alone rest h)

-- parts whose commas are doubled, joined by commas

-- a byte that is no comma is a front of a part
passed : (c : ℕ) (rest : List ℕ) → (c == 44) ≡ false → parts (c ∷ rest) ≡ before c (parts rest)
unfolding parts
passed c [] e = rw e refl
passed c (d ∷ rest) e = rw e refl

ended_alone : (part : List ℕ) → first_with part (parts []) ≡ part ∷ []
unfolding parts
ended_alone part = ap (λ (l : List ℕ). l ∷ []) (append-nil part)

apart : (c : ℕ) → (c == 44) ≡ false → c ≡ 44 → ⊥
apart c e is = let yes : (c == 44) ≡ true = eq-eqb c 44 is in cc

spelled : (part rest : List ℕ) → parts (doubled part ++ rest) ≡ first_with part (parts rest)
spelled [] rest = sym (no_front rest)
spelled (c ∷ part) rest = go (c == 44) refl (spelled part rest)
  where
    go : (t : Bool) → (c == 44) ≡ t → parts (doubled part ++ rest) ≡ first_with part (parts rest) → parts (doubled (c ∷ part) ++ rest) ≡ first_with (c ∷ part) (parts rest)
    go true e so =
        let is : c ≡ 44 = eqb-true c 44 e in
        rw (e, doubled_comma (doubled part ++ rest), so, before_with 44 part (parts rest), is) refl
    go false e so = rw (e, passed c (doubled part ++ rest) e, so, before_with c part (parts rest)) refl

joined_behind : (part : List ℕ) (others : List (List ℕ)) → StandsBehind part → (more : List ℕ) → joined part others ≢ 44 ∷ more
joined_behind [] others h more = absurd h
joined_behind (c ∷ part) others h more = go others
  where
    go : (l : List (List ℕ)) → joined (c ∷ part) l ≢ 44 ∷ more
    go [] = rw h (λ same. let is : c ≡ 44 = cc in absurd (apart c h is))
    go (next ∷ l) = rw h (λ same. let is : c ≡ 44 = cc in absurd (apart c h is))

pub parts_are_spelled : PartsAreSpelled
parts_are_spelled first [] h = ap parts (sym (append-nil (doubled first))) ∙ spelled first [] ∙ ended_alone first
parts_are_spelled first (next ∷ others) h =
    spelled first (44 ∷ joined next others)
    ∙ ap (first_with first) (ended (joined next others) (joined_behind next others h.0) ∙ ap (λ (ps : List (List ℕ)). [] ∷ ps) (parts_are_spelled next others h.1))
    ∙ ap (λ (l : List ℕ). l ∷ next ∷ others) (append-nil first)
