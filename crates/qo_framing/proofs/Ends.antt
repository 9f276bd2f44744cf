-- The end that is found is the first.
use Rattle.std.proofs.Common.{◌≡◌, ℕ, zero, suc, ◌+◌, ◌<◌, ◌≤◌, List, [], ◌∷◌, ◌++◌, length, reverse, take, Option, Some, None, refl, sym, ◌∙◌, ap, subst, arith}
use Rattle.std.proofs.lemmas.List.{append-nil}
use Rattle.qo_framing.specs.Fronts.{End, ending, end_after, later}
use Rattle.qo_framing.specs.Laws.{EndsFirst, EndsAreFirst}
use Rattle.qo_framing.specs.declared.scanner.Ending.{Ending}
use Rattle.qo_framing.proofs.Scans.{end_here, no_end_here, none_later, reverse_onto}

-- the same after a front
record EndsFirstAfter (front bytes : List ℕ) (e : End) : Type 0 where
  some : 0 < e.count
  within : e.count ≤ length bytes
  here : ending (reverse (take e.count bytes) ++ front) ≡ Some e.how
  before : (n : ℕ) → 0 < n → n < e.count → ending (reverse (take n bytes) ++ front) ≡ None

-- a front with a byte more
one_more : (front bytes : List ℕ) (b n : ℕ) → ending (reverse (take (suc n) (b ∷ bytes)) ++ front) ≡ ending (reverse (take n bytes) ++ b ∷ front)
one_more front bytes b n = ap ending (reverse_onto b (take n bytes) front)

first_here : (front bytes : List ℕ) (b : ℕ) (how : Ending) → ending (b ∷ front) ≡ Some how → EndsFirstAfter front (b ∷ bytes) (record { how = how; count = 1 })
first_here front bytes b how is =
    record { some = omega arith; within = omega arith; here = is; before = λ n least below. absurd (omega arith) }

before_later : (front bytes : List ℕ) (b : ℕ) (d : End) → ending (b ∷ front) ≡ None → EndsFirstAfter (b ∷ front) bytes d → (n : ℕ) → n < 1 + d.count → 0 < n
    → ending (reverse (take n (b ∷ bytes)) ++ front) ≡ None
before_later front bytes b d is h zero below least = absurd (omega arith)
before_later front bytes b d is h (suc zero) below least = is
before_later front bytes b d is h (suc (suc n)) below least = one_more front bytes b (suc n) ∙ h.before (suc n) (omega arith) (omega arith)

first_later : (front bytes : List ℕ) (b : ℕ) (d : End) → ending (b ∷ front) ≡ None → EndsFirstAfter (b ∷ front) bytes d
    → EndsFirstAfter front (b ∷ bytes) (record { how = d.how; count = 1 + d.count })
first_later front bytes b d is h =
    let within = h.within in
    let count : 1 + d.count ≡ suc d.count = omega arith in
    record {
      some = omega arith;
      within = omega arith;
      here = ap (λ (k : ℕ). ending (reverse (take k (b ∷ bytes)) ++ front)) count ∙ (one_more front bytes b d.count ∙ h.here);
      before = λ n least below. before_later front bytes b d is h n below least;
    }

ends_first : (bytes front : List ℕ) (e : End) → end_after front bytes ≡ Some e → EndsFirstAfter front bytes e
ends_first [] front e is = cc
ends_first (b ∷ bytes) front e is = by_ending (ending (b ∷ front)) (end_after (b ∷ front) bytes) refl refl (ends_first bytes (b ∷ front))
  where
    of_some : (x : End) → Some x ≡ Some e → EndsFirstAfter front (b ∷ bytes) x → EndsFirstAfter front (b ∷ bytes) e
    of_some x same h = let is_same : x ≡ e = cc in subst (EndsFirstAfter front (b ∷ bytes)) is_same h

    by_ending : (how : Option Ending) (found : Option End) → ending (b ∷ front) ≡ how → end_after (b ∷ front) bytes ≡ found
        → ((d : End) → end_after (b ∷ front) bytes ≡ Some d → EndsFirstAfter (b ∷ front) bytes d) → EndsFirstAfter front (b ∷ bytes) e
    by_ending (Some how) found how_is found_is further =
        of_some (record { how = how; count = 1 }) (sym (end_here front b bytes how how_is) ∙ is) (first_here front bytes b how how_is)
    by_ending None (Some d) how_is found_is further =
        of_some (record { how = d.how; count = 1 + d.count }) (sym (no_end_here front b bytes how_is ∙ ap (later 1) found_is) ∙ is)
        (first_later front bytes b d how_is (further d found_is))
    by_ending None None how_is found_is further =
        let none = sym (no_end_here front b bytes how_is ∙ ap (later 1) found_is) ∙ is in cc

-- where there is none, no front has one
none_anywhere : (bytes front : List ℕ) → ending front ≡ None → end_after front bytes ≡ None → (n : ℕ) → ending (reverse (take n bytes) ++ front) ≡ None
none_anywhere bytes front open_so_far none zero = open_so_far
none_anywhere [] front open_so_far none (suc n) = open_so_far
none_anywhere (b ∷ bytes) front open_so_far none (suc n) = by_ending (ending (b ∷ front)) refl (none_anywhere bytes (b ∷ front))
  where
    by_ending : (how : Option Ending) → ending (b ∷ front) ≡ how
        → (ending (b ∷ front) ≡ None → end_after (b ∷ front) bytes ≡ None → (m : ℕ) → ending (reverse (take m bytes) ++ b ∷ front) ≡ None)
        → ending (reverse (take (suc n) (b ∷ bytes)) ++ front) ≡ None
    by_ending (Some how) is further = let here = sym (end_here front b bytes how is) ∙ none in cc
    by_ending None is further =
        one_more front bytes b n ∙ further is (none_later 1 (end_after (b ∷ front) bytes) (sym (no_end_here front b bytes is) ∙ none)) n

-- without a front before
alone : (bytes : List ℕ) (n : ℕ) → ending (reverse (take n bytes)) ≡ ending (reverse (take n bytes) ++ [])
alone bytes n = ap ending (sym (append-nil (reverse (take n bytes))))

before_alone : (bytes : List ℕ) (e : End) → EndsFirstAfter [] bytes e → (n : ℕ) → n < e.count → ending (reverse (take n bytes)) ≡ None
before_alone bytes e h zero below = refl
before_alone bytes e h (suc n) below = alone bytes (suc n) ∙ h.before (suc n) (omega arith) below

first_alone : (bytes : List ℕ) (e : End) → EndsFirstAfter [] bytes e → EndsFirst bytes e
first_alone bytes e h =
    record { some = h.some; within = h.within; here = alone bytes e.count ∙ h.here; before = before_alone bytes e h }

pub ends_are_first : EndsAreFirst
ends_are_first bytes =
    (λ e is. first_alone bytes e (ends_first bytes [] e is), λ none n. alone bytes n ∙ none_anywhere bytes [] refl none n)
