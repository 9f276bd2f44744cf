-- Where the numbers of a clock were written, the periods of clocks that are not below it stay.
use Rattle.std.proofs.Common.{◌≡◌, inl, inr, refl, ap, ap₂, sym, ◌∙◌, ℕ, suc, ◌||◌, ◌&&◌, Bool, true, false, not, cond, eqb, nat_eq, List, [], ◌∷◌, length, filter}
use Rattle.std.specs.List.{list_any}
use Rattle.std.proofs.lemmas.Bool.{eqb-true, eq-eqb}
use Rattle.qo_model.specs.Board.{Board}
use Rattle.qo_model.specs.Clocks.{clocks_below, period}
use Rattle.qo_model.specs.Depth.{among}
use Rattle.qo_model.specs.Paths.{births}
use Rattle.qo_model.proofs.ClockFitLemmas.{Either, IsWritten, any-below, below, either}
use Rattle.qo_model.proofs.PeriodLemmas.{to_depth}

any-filter : (p q : ℕ → Bool) (xs : List ℕ) → list_any p (filter q xs) ≡ list_any (λ (k : ℕ). q k && p k) xs
any-filter p q [] = refl
any-filter p q (x ∷ xs) = go (q x) (any-filter p q xs)
  where
    go : (t : Bool) → list_any p (filter q xs) ≡ list_any (λ (k : ℕ). q k && p k) xs
        → list_any p (cond t (x ∷ filter q xs) (filter q xs)) ≡ ((t && p x) || list_any (λ (k : ℕ). q k && p k) xs)
    go true rest = ap (λ (u : Bool). p x || u) rest
    go false rest = rest

-- the period of another clock is as it was, or the clock is below

module _ (b new : Board) (c : ℕ) (w : IsWritten b new c) where
  -- whether the period of a clock differs
  abbrev pub differs : ℕ → Bool
  differs n = not (eqb (period b n) (period new n))

  -- that of another clock does not, unless it is below
  pub period-elsewhere : (m : ℕ) → eqb m c ≡ false → among (filter differs (clocks_below b c)) m ≡ false → period new m ≡ period b m
  unfolding period clocks_below
  period-elsewhere m apart none = go (eqb (period b m) (period new m)) refl
    where
      found : not (eqb (period b m) (period new m)) ≡ true → Either b new c w (suc (length (births b))) m → period new m ≡ period b m
      found e (inl same) = ap (λ (l : List ℕ). to_depth new (suc (length l)) m) w.births ∙ same
      found e (inr goes) =
          let self : nat_eq m m ≡ true = eq-eqb m m refl in
          let here : (differs m && nat_eq m m) ≡ true = ap₂ (λ (s t : Bool). s && t) e self in
          let there : list_any (λ (k : ℕ). differs k && nat_eq m k) (below b (suc (length (births b))) c) ≡ true =
          any-below b (λ (k : ℕ). differs k && nat_eq m k) (suc (length (births b))) c m goes here in
          absurd (let clash : true ≡ false = sym there ∙ sym (any-filter (nat_eq m) differs (below b (suc (length (births b))) c)) ∙ none in let no : ⊥ = cc in no)

      go : (t : Bool) → eqb (period b m) (period new m) ≡ t → period new m ≡ period b m
      go true e = sym (eqb-true (period b m) (period new m) e)
      go false e = found (ap not e) (either b new c w (suc (length (births b))) m apart)
