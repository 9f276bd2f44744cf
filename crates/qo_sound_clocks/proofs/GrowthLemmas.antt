-- Where objects read no more as clocks than before, and new clocks are as new, the clocks stay sound.
use Rattle.std.proofs.Common.{◌≡◌, ◌≢◌, ◌⊎◌, inl, inr, refl, ap, ap₂, sym, subst, ◌∙◌, ℕ, zero, suc, ◌*◌, ◌/◌, ◌^◌, ◌<◌, ◌≤◌, Bool, true, false, cond, eqb, List, Option, Some, None, option_and_then, unwrap_or, codes, arith}
use Rattle.qo_model.proofs.Common.{Board, slots_at, child_period, div_of, mul_of, own_period, period, scaled, scaled_by, source_of, number_at, number_in, plain_in}
use Rattle.std.proofs.Math.Nat.{div-mul-le_self, div-one, mul-le-mul_right}
use Rattle.std.proofs.lemmas.Bool.{cases_lt}
use Rattle.std.proofs.lemmas.Bool.Decides.{nat_tests}
use Rattle.std.proofs.lemmas.Nat.{le-div}
use Rattle.qo_model.specs.Clocks.{weak_in}
use Rattle.qo_model.proofs.FirstSlotLemmas.{named_in}
use Rattle.qo_model.proofs.PeriodLemmas.{period-fed, period-own, scaled-zero}
use Rattle.qo_sound_clocks.specs.SoundClocks.{SoundClocks}
use Rattle.qo_sound_clocks.proofs.DecreaseLemmas.{Fewer}
use Rattle.qo_sound_clocks.proofs.SlotLemmas.{Blank, div_in, Less, mul_in, own_in, sees, Slots}
use Rattle.qo_sound_clocks.proofs.ReadLemmas.{Reads}

-- scales

scaled-more : (mul div p q : ℕ) → p ≤ q → scaled_by mul div p ≤ scaled_by mul div q
scaled-more mul div p q le = go (eqb div 0) refl
  where
    go : (t : Bool) → eqb div 0 ≡ t → cond t 0 (p * mul / div) ≤ cond t 0 (q * mul / div)
    go true e = omega arith
    go false e =
        let some : 0 < div = grind (arith, nat_tests, e) in
        let back : p * mul / div * div ≤ p * mul = div-mul-le_self (p * mul) div in
        let wide : p * mul ≤ q * mul = mul-le-mul_right mul le in
        let all : p * mul / div * div ≤ q * mul = omega (arith, back, wide) in
        le-div (p * mul / div) (q * mul) div some all

scaled-one : (p : ℕ) → scaled_by 1 1 p ≡ p
scaled-one p = let one : p * 1 ≡ p = omega arith in ap (λ (k : ℕ). k / 1) one ∙ div-one p

-- a clock as new, but that it may go by an older one
pub record Fresh (m : ℕ) (ys : Slots) : Type 0 where
  pub own : own_in ys ≡ 0
  pub mul : mul_in ys ≡ 1
  pub div : div_in ys ≡ 1
  pub older : (s : ℕ) → sees s ys ≡ true → s < m

module _ (b c : Board) (on : Reads b) (now : Reads c) (h : SoundClocks b) where
  abbrev LessAt : ℕ → Type 0
  LessAt m = Less (slots_at b m) (slots_at c m)

  -- where an object reads no more

  back : (m s : ℕ) → LessAt m → source_of c m ≡ Some s → source_of b m ≡ Some s
  back m s less e = on.source m s (less.source s (now.seen m s e))

  own-lower : (m : ℕ) → LessAt m → own_period c m ≤ own_period b m
  own-lower m less =
      let before : own_period b m ≡ own_in (slots_at b m) = on.own m in
      let after : own_period c m ≡ own_in (slots_at c m) = now.own m in
      omega (arith, before, after, less.own)

  child-lower : (m : ℕ) → LessAt m → period c m ≤ period b m → child_period c m ≤ child_period b m
  child-lower m less le = go less.scale
    where
      go : ((mul_in (slots_at c m) ≡ mul_in (slots_at b m)) × (div_in (slots_at c m) ≡ div_in (slots_at b m))) ⊎ Blank (slots_at c m)
          → child_period c m ≤ child_period b m
      go (inl same) =
          let mul : mul_of c m ≡ mul_of b m = now.mul m ∙ same.0 ∙ sym (on.mul m) in
          let div : div_of c m ≡ div_of b m = now.div m ∙ same.1 ∙ sym (on.div m) in
          let is : child_period c m ≡ scaled_by (mul_of b m) (div_of b m) (period c m) = ap₂ (λ (x y : ℕ). scaled_by x y (period c m)) mul div in
          subst (λ (k : ℕ). k ≤ child_period b m) (sym is) (scaled-more (mul_of b m) (div_of b m) (period c m) (period b m) le)
      go (inr blank) = by (source_of c m) refl
        where
          by : (o : Option ℕ) → source_of c m ≡ o → child_period c m ≤ child_period b m
          by None e =
              let none : period c m ≡ 0 = period-own c m e ∙ now.own m ∙ blank.own in
              let child : child_period c m ≡ 0 = ap (scaled_by (mul_of c m) (div_of c m)) none ∙ scaled-zero (mul_of c m) (div_of c m) in
              omega (arith, child)
          by (Some s) e = absurd (let clash : true ≡ false = sym (now.seen m s e) ∙ blank.source s in cc)

  -- periods below a birth, one after another
  lower-to : (k fuel m : ℕ) → ((x : ℕ) → x ≤ k → LessAt x) → m < fuel → m ≤ k → period c m ≤ period b m
  lower-to k zero m less short le = absurd (omega (arith, short))
  lower-to k (suc fuel) m less short le = go (source_of c m) refl (lower-to k fuel)
    where
      own : source_of c m ≡ None → (o : Option ℕ) → source_of b m ≡ o → period c m ≤ period b m
      own e None q =
          let before : period b m ≡ own_period b m = period-own b m q in
          let after : period c m ≡ own_period c m = period-own c m e in
          omega (arith, before, after, own-lower m (less m le))
      own e (Some s) q =
          let none : own_period b m ≡ 0 = h.none_own m s q in
          let after : period c m ≡ own_period c m = period-own c m e in
          omega (arith, none, after, own-lower m (less m le))

      go : (o : Option ℕ) → source_of c m ≡ o
          → ((x : ℕ) → ((y : ℕ) → y ≤ k → LessAt y) → x < fuel → x ≤ k → period c x ≤ period b x) → period c m ≤ period b m
      go None e rest = own e (source_of b m) refl
      go (Some s) e rest =
          let was : source_of b m ≡ Some s = back m s (less m le) e in
          let older : s < m = h.older m s was in
          let low : s ≤ k = omega (arith, older, le) in
          let there : child_period c s ≤ child_period b s = child-lower s (less s low) (rest s less (omega (arith, older, short)) low) in
          let before : period b m ≡ child_period b s = period-fed b m s was in
          let after : period c m ≡ child_period c s = period-fed c m s e in
          omega (arith, before, after, there)

  low-fits : (k m : ℕ) → ((x : ℕ) → x ≤ k → LessAt x) → m ≤ k → child_period c m < 2 ^ 64
  low-fits k m less le =
      let lower : child_period c m ≤ child_period b m = child-lower m (less m le) (lower-to k (suc m) m less (omega arith) le) in
      let fits : child_period b m < 2 ^ 64 = h.fit.fits m in
      omega (arith, lower, fits)

  low-divides : (m : ℕ) → LessAt m → div_of c m ≢ 0
  low-divides m less e = go less.scale
    where
      go : ((mul_in (slots_at c m) ≡ mul_in (slots_at b m)) × (div_in (slots_at c m) ≡ div_in (slots_at b m))) ⊎ Blank (slots_at c m) → ⊥
      go (inl same) = h.fit.divides m (on.div m ∙ sym same.1 ∙ sym (now.div m) ∙ e)
      go (inr blank) = let clash : 1 ≡ 0 = sym blank.div ∙ sym (now.div m) ∙ e in omega (arith, clash)

  low-own : (m s : ℕ) → LessAt m → source_of c m ≡ Some s → own_period c m ≡ 0
  low-own m s less e =
      let none : own_period b m ≡ 0 = h.none_own m s (back m s less e) in
      omega (arith, none, own-lower m less)

  -- all of them
  pub fewer-sound : Fewer b c → SoundClocks c
  fewer-sound less =
      record {
        older = λ m s e. h.older m s (back m s (less m) e);
        none_own = λ m s e. low-own m s (less m) e;
        fit =
            record {
              fits = λ m. low-fits m m (λ x le. less x) (omega arith);
              divides = λ m. low-divides m (less m);
            };
      }

  -- and where those after a birth are as new
  module _ (k : ℕ) (less : (m : ℕ) → m ≤ k → LessAt m) (fresh : (m : ℕ) → k < m → Fresh m (slots_at c m)) where
    fits-to : (fuel m : ℕ) → m < fuel → child_period c m < 2 ^ 64
    fits-to zero m short = absurd (omega (arith, short))
    fits-to (suc fuel) m short = go (cases_lt k m) (fits-to fuel)
      where
        by : Fresh m (slots_at c m) → ((x : ℕ) → x < fuel → child_period c x < 2 ^ 64) → (o : Option ℕ) → source_of c m ≡ o → child_period c m < 2 ^ 64
        by new rest None e =
            let none : period c m ≡ 0 = period-own c m e ∙ now.own m ∙ new.own in
            let child : child_period c m ≡ 0 = ap (scaled_by (mul_of c m) (div_of c m)) none ∙ scaled-zero (mul_of c m) (div_of c m) in
            omega (arith, child)
        by new rest (Some s) e =
            let older : s < m = new.older s (now.seen m s e) in
            let there : child_period c s < 2 ^ 64 = rest s (omega (arith, older, short)) in
            let same : child_period c m ≡ scaled_by 1 1 (period c m) =
            ap₂ (λ (x y : ℕ). scaled_by x y (period c m)) (now.mul m ∙ new.mul) (now.div m ∙ new.div) in
            let is : child_period c m ≡ child_period c s = same ∙ scaled-one (period c m) ∙ period-fed c m s e in
            omega (arith, is, there)

        go : (k < m) ⊎ (m ≤ k) → ((x : ℕ) → x < fuel → child_period c x < 2 ^ 64) → child_period c m < 2 ^ 64
        go (inl high) rest = by (fresh m high) rest (source_of c m) refl
        go (inr low) rest = low-fits k m less low

    divides-at : (m : ℕ) → (k < m) ⊎ (m ≤ k) → div_of c m ≢ 0
    divides-at m (inl high) e = let clash : 1 ≡ 0 = sym (fresh m high).div ∙ sym (now.div m) ∙ e in omega (arith, clash)
    divides-at m (inr low) e = low-divides m (less m low) e

    older-at : (m s : ℕ) → (k < m) ⊎ (m ≤ k) → source_of c m ≡ Some s → s < m
    older-at m s (inl high) e = (fresh m high).older s (now.seen m s e)
    older-at m s (inr low) e = h.older m s (back m s (less m low) e)

    own-at : (m s : ℕ) → (k < m) ⊎ (m ≤ k) → source_of c m ≡ Some s → own_period c m ≡ 0
    own-at m s (inl high) e = now.own m ∙ (fresh m high).own
    own-at m s (inr low) e = low-own m s (less m low) e

    pub grown-sound : SoundClocks c
    grown-sound =
        record {
          older = λ m s e. older-at m s (cases_lt k m) e;
          none_own = λ m s e. own-at m s (cases_lt k m) e;
          fit = record { fits = λ m. fits-to (suc m) m (omega arith); divides = λ m. divides-at m (cases_lt k m) };
        }

-- where all slots are as before
module _ (b c : Board) (same : (n : ℕ) → slots_at c n ≡ slots_at b n) (h : SoundClocks b) where
  source-same : (n : ℕ) → source_of c n ≡ source_of b n
  source-same n = ap (λ (xs : Slots). option_and_then weak_in (named_in (codes "source") xs)) (same n)

  number-same : (name : List ℕ) (n : ℕ) → number_at c n name ≡ number_at b n name
  number-same name n = ap (λ (xs : Slots). option_and_then number_in (option_and_then plain_in (named_in name xs))) (same n)

  scaled-same : (n p q : ℕ) → p ≡ q → scaled c n p ≡ scaled b n q
  scaled-same n p q e =
      ap (scaled c n) e
      ∙ ap₂ (λ (mul div : ℕ). scaled_by mul div q) (ap (λ (o : Option ℕ). unwrap_or o 1) (number-same (codes "mul") n))
      (ap (λ (o : Option ℕ). unwrap_or o 1) (number-same (codes "div") n))

  period-to : (fuel n : ℕ) → n < fuel → period c n ≡ period b n
  period-to zero n short = absurd (omega (arith, short))
  period-to (suc fuel) n short = go (source_of b n) refl (period-to fuel)
    where
      go : (o : Option ℕ) → source_of b n ≡ o → ((x : ℕ) → x < fuel → period c x ≡ period b x) → period c n ≡ period b n
      go None e rest =
          period-own c n (source-same n ∙ e) ∙ ap (λ (o : Option ℕ). unwrap_or o 0) (number-same (codes "period") n) ∙ sym (period-own b n e)
      go (Some s) e rest =
          let older : s < n = h.older n s e in
          period-fed c n s (source-same n ∙ e)
          ∙ scaled-same s (period c s) (period b s) (rest s (omega (arith, older, short)))
          ∙ sym (period-fed b n s e)

  pub same-sound : SoundClocks c
  same-sound =
      record {
        older = λ n s e. h.older n s (sym (source-same n) ∙ e);
        none_own = λ n s e. ap (λ (o : Option ℕ). unwrap_or o 0) (number-same (codes "period") n) ∙ h.none_own n s (sym (source-same n) ∙ e);
        fit =
            record {
              fits = λ n.
                  subst (λ (k : ℕ). k < 2 ^ 64) (sym (scaled-same n (period c n) (period b n) (period-to (suc n) n (omega arith)))) (h.fit.fits n);
              divides = λ n e. h.fit.divides n (sym (ap (λ (o : Option ℕ). unwrap_or o 1) (number-same (codes "div") n)) ∙ e);
            };
      }
