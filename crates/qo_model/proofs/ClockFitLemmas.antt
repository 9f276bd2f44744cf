-- Where the numbers of a clock were written, and neither its own period nor those of the clocks below pass 64 bits, all periods fit.
use Rattle.std.proofs.Common.{◌≡◌, ◌⊎◌, inl, inr, refl, ap, ap₂, subst, sym, ◌∙◌, ℕ, zero, suc, ◌^◌, ◌<◌, ◌||◌, Bool, true, false, cond, eqb, List, [], ◌∷◌, length, filter, Option, Some, None, arith}
use Rattle.qo_model.proofs.Common.{list_any, option_map_or, Board, ClocksFit, child_period, clocks_below, div_of, fed_turn, is_source, mul_of, overflows, own_period, period, scaled, scaled_by, source_of, among, by_depth, births}
use Rattle.std.specs.List.{flat_map}
use Rattle.std.proofs.lemmas.Bool.{eqb-true, eq-eqb, or_left, or_right}
use Rattle.std.proofs.lemmas.Bool.Decides.{nat_tests}
use Rattle.std.proofs.lemmas.List.Folds.{list_any-append}
use Rattle.qo_model.proofs.PeriodLemmas.{to_depth, turn_by, with-source}

abbrev pub with_below : (ℕ → List ℕ) → ℕ → List ℕ
with_below f n = n ∷ f n

-- what a write of a clock's numbers leaves

pub record IsWritten (b new : Board) (c : ℕ) : Type 0 where
  pub births : births new ≡ births b
  pub sources : (n : ℕ) → source_of new n ≡ source_of b n
  pub mul : (n : ℕ) → eqb n c ≡ false → mul_of new n ≡ mul_of b n
  pub div : (n : ℕ) → eqb n c ≡ false → div_of new n ≡ div_of b n
  pub own : (n : ℕ) → eqb n c ≡ false → own_period new n ≡ own_period b n

pub written-then : (b mid new : Board) (c : ℕ) → IsWritten b mid c → IsWritten mid new c → IsWritten b new c
written-then b mid new c h k =
    record {
      births = k.births ∙ h.births;
      sources = λ n. k.sources n ∙ h.sources n;
      mul = λ n p. k.mul n p ∙ h.mul n p;
      div = λ n p. k.div n p ∙ h.div n p;
      own = λ n p. k.own n p ∙ h.own n p;
    }

-- a clock is among those below what it goes by

any-kid : (p : ℕ → Bool) (g : ℕ → List ℕ) (q : ℕ → Bool) (xs : List ℕ) (m : ℕ) → among xs m ≡ true → q m ≡ true → list_any p (m ∷ g m) ≡ true
    → list_any p (flat_map (with_below g) (filter q xs)) ≡ true
any-kid p g q [] m there fed found = cc
any-kid p g q (x ∷ xs) m there fed found = go (eqb m x) refl there (λ e. any-kid p g q xs m e fed found)
  where
    rest : List ℕ
    rest = flat_map (with_below g) (filter q xs)

    first : (t : Bool) → q x ≡ t → eqb m x ≡ true → list_any p (flat_map (with_below g) (cond t (x ∷ filter q xs) (filter q xs))) ≡ true
    first true e is =
        let same : m ≡ x = eqb-true m x is in
        list_any-append p (x ∷ g x) (flat_map (with_below g) (filter q xs))
        ∙ or_left (list_any p (x ∷ g x)) (list_any p (flat_map (with_below g) (filter q xs))) (subst (λ (k : ℕ). list_any p (k ∷ g k) ≡ true) same found)
    first false e is = let clash : true ≡ false = sym fed ∙ ap q (eqb-true m x is) ∙ e in cc

    later : (t : Bool) → list_any p (flat_map (with_below g) (filter q xs)) ≡ true
        → list_any p (flat_map (with_below g) (cond t (x ∷ filter q xs) (filter q xs))) ≡ true
    later true e =
        list_any-append p (x ∷ g x) (flat_map (with_below g) (filter q xs))
        ∙ or_right (list_any p (x ∷ g x)) (list_any p (flat_map (with_below g) (filter q xs))) e
    later false e = e

    go : (t : Bool) → eqb m x ≡ t → (t || among xs m) ≡ true
        → (among xs m ≡ true → list_any p (flat_map (with_below g) (filter q xs)) ≡ true)
        → list_any p (flat_map (with_below g) (filter q (x ∷ xs))) ≡ true
    go true e u next = first (q x) refl e
    go false e u next = later (q x) (next u)

module _ (b : Board) where
  -- the clocks below a clock, to a depth
  abbrev pub below : ℕ → ℕ → List ℕ
  below d n = by_depth (fed_turn b) (λ _. []) d n

  -- a clock goes by another in so many steps at most
  abbrev pub Goes : ℕ → ℕ → ℕ → Type 0
  Goes zero c n = ⊥
  Goes (suc d) c n = (m : ℕ) × ((source_of b m ≡ Some c) × ((n ≡ m) ⊎ Goes d m n))

  goes-on : (d c s n : ℕ) → source_of b n ≡ Some s → Goes d c s → Goes (suc d) c n
  goes-on zero c s n r goes = absurd goes
  goes-on (suc d) c s n r (m, (q, inl e)) = (m, (q, inr (n, (r ∙ ap (λ (k : ℕ). Some k) e, inl refl))))
  goes-on (suc d) c s n r (m, (q, inr goes)) = (m, (q, inr (goes-on d m s n r goes)))

  is-source : (c n : ℕ) → source_of b n ≡ Some c → is_source b c n ≡ true
  is-source c n q = ap (λ (o : Option ℕ). option_map_or (λ (s : ℕ). eqb s c) o false) q ∙ eq-eqb c c refl

  pub any-below : (p : ℕ → Bool) (d c n : ℕ) → Goes d c n → p n ≡ true → list_any p (below d c) ≡ true
  any-below p zero c n goes e = absurd goes
  any-below p (suc d) c n (m, (q, inl is)) e =
      any-kid p (below d) (is_source b c) (births b) m (with-source b m c q) (is-source c m q)
      (or_left (p m) (list_any p (below d m)) (subst (λ (k : ℕ). p k ≡ true) is e))
  any-below p (suc d) c n (m, (q, inr goes)) e =
      any-kid p (below d) (is_source b c) (births b) m (with-source b m c q) (is-source c m q)
      (or_right (p m) (list_any p (below d m)) (any-below p d m n goes e))

-- the period of another clock is as it was, or the clock is below

module _ (b new : Board) (c : ℕ) (w : IsWritten b new c) where
  abbrev pub Either : ℕ → ℕ → Type 0
  Either d n = (to_depth new d n ≡ to_depth b d n) ⊎ Goes b d c n

  scaled-there : (s p : ℕ) → eqb s c ≡ false → scaled new s p ≡ scaled b s p
  scaled-there s p e = ap₂ (λ (mul div : ℕ). scaled_by mul div p) (w.mul s e) (w.div s e)

  pub either : (d n : ℕ) → eqb n c ≡ false → Either d n
  either zero n e = inl refl
  either (suc d) n e = go (source_of b n) refl (either d)
    where
      by : (s : ℕ) → source_of b n ≡ Some s → (t : Bool) → eqb s c ≡ t → (eqb s c ≡ false → Either d s) → Either (suc d) n
      by s q true is rest = inr (n, (q ∙ ap (λ (k : ℕ). Some k) (eqb-true s c is), inl refl))
      by s q false is rest = of (rest is)
        where
          of : Either d s → Either (suc d) n
          of (inl same) =
              inl
              (ap (turn_by new (to_depth new d) n) (w.sources n ∙ q)
              ∙ ap (scaled new s) same
              ∙ scaled-there s (to_depth b d s) is
              ∙ sym (ap (turn_by b (to_depth b d) n) q))
          of (inr goes) = inr (goes-on b d c s n q goes)

      go : (o : Option ℕ) → source_of b n ≡ o → ((s : ℕ) → eqb s c ≡ false → Either d s) → Either (suc d) n
      go None q rest =
          inl (ap (turn_by new (to_depth new d) n) (w.sources n ∙ q) ∙ w.own n e ∙ sym (ap (turn_by b (to_depth b d) n) q))
      go (Some s) q rest = by s q (eqb s c) refl (rest s)

  pub fits-new : ClocksFit b → (div_of new c ≡ 0 → ⊥) → overflows new c ≡ false → list_any (overflows new) (clocks_below b c) ≡ false → ClocksFit new
  unfolding period clocks_below
  fits-new fit not_zero own clear = record { fits = λ n. fits n (eqb n c) refl; divides = λ n. divides n (eqb n c) refl }
    where
      low : (n : ℕ) → overflows new n ≡ false → child_period new n < 2 ^ 64
      low n e = grind (arith, nat_tests, e)

      of : (n : ℕ) → eqb n c ≡ false → Either (suc (length (births b))) n → child_period new n < 2 ^ 64
      of n e (inl same) =
          let period_same : period new n ≡ period b n = ap (λ (l : List ℕ). to_depth new (suc (length l)) n) w.births ∙ same in
          let child : child_period new n ≡ child_period b n = ap (scaled new n) period_same ∙ scaled-there n (period b n) e in
          subst (λ (k : ℕ). k < 2 ^ 64) (sym child) (fit.fits n)
      of n e (inr goes) = by (overflows new n) refl
        where
          by : (t : Bool) → overflows new n ≡ t → child_period new n < 2 ^ 64
          by false r = low n r
          by true r =
              let clash : true ≡ false = sym (any-below b (overflows new) (suc (length (births b))) c n goes r) ∙ clear in
              absurd (let no : ⊥ = cc in no)

      fits : (n : ℕ) (t : Bool) → eqb n c ≡ t → child_period new n < 2 ^ 64
      fits n true e = let same : n ≡ c = eqb-true n c e in low n (ap (overflows new) same ∙ own)
      fits n false e = of n e (either (suc (length (births b))) n e)

      divides : (n : ℕ) (t : Bool) → eqb n c ≡ t → (div_of new n ≡ 0 → ⊥)
      divides n true e = let same : n ≡ c = eqb-true n c e in λ z. not_zero (sym (ap (div_of new) same) ∙ z)
      divides n false e = λ z. fit.divides n (sym (w.div n e) ∙ z)
