-- Clocks that go round stand still, and what is written of a clock changes the periods of none that it goes by.
use Rattle.std.proofs.Common.{◌≡◌, refl, ap, ap₂, subst, sym, ◌∙◌, ℕ, zero, suc, Bool, true, false, eqb, length, Option, Some, None}
use Rattle.std.proofs.lemmas.Bool.{eqb-true}
use Rattle.std.proofs.lemmas.Option.{same_Some}
use Rattle.qo_model.specs.Board.{Board}
use Rattle.qo_model.specs.Clocks.{div_of, mul_of, own_period, period, scaled, scaled_by, source_of}
use Rattle.qo_model.specs.Paths.{births}
use Rattle.qo_model.proofs.ClockFitLemmas.{IsWritten}
use Rattle.qo_model.proofs.PeriodLemmas.{scaled-zero, to_depth, turn_by}

-- a clock that goes by another in one step or more
pub data Under (b : Board) (c : ℕ) : ℕ → Type 0 where
  one : {n : ℕ} → source_of b n ≡ Some c → Under b c n
  more : {n s : ℕ} → source_of b n ≡ Some s → Under b c s → Under b c n

-- it goes by what the other goes by
pub further : (b : Board) (c : ℕ) {n : ℕ} → Under b c n → (s : ℕ) → source_of b c ≡ Some s → Under b s n
further b c (one {n} q) s r = more q (one r)
further b c (more {n} {s = t} q u) s r = more q (further b c u s r)

-- on a round each clock stands still

first-source : (b : Board) (c : ℕ) {n : ℕ} → Under b c n → (s : ℕ) × (source_of b n ≡ Some s)
first-source b c (one {n} q) = (c, q)
first-source b c (more {n} {s} q u) = (s, q)

around : (b : Board) (c : ℕ) {n : ℕ} → Under b c n → c ≡ n → (s : ℕ) → source_of b n ≡ Some s → Under b s s
around b c (one {n} q) same s r =
    let to : c ≡ s = same_Some c s (sym q ∙ r) in
    let turned : source_of b c ≡ Some c = subst (λ (k : ℕ). source_of b k ≡ Some c) (sym same) q in
    subst (λ (k : ℕ). Under b k k) to (one turned)
around b c (more {n} {s = t} q u) same s r =
    let to : t ≡ s = same_Some t s (sym q ∙ r) in
    let turned : source_of b c ≡ Some t = subst (λ (k : ℕ). source_of b k ≡ Some t) (sym same) q in
    subst (λ (k : ℕ). Under b k k) to (further b c u t turned)

round-zero : (b : Board) (k n : ℕ) → Under b n n → to_depth b k n ≡ 0
round-zero b zero n u = refl
round-zero b (suc k) n u =
    let first : (s : ℕ) × (source_of b n ≡ Some s) = first-source b n u in
    ap (turn_by b (to_depth b k) n) first.1
    ∙ ap (scaled b first.0) (round-zero b k first.0 (around b n u refl first.0 first.1))
    ∙ scaled-zero (mul_of b first.0) (div_of b first.0)

pub round-at : (b : Board) (c n : ℕ) → Under b c n → eqb n c ≡ true → period b n ≡ 0
unfolding period
round-at b c n u e =
    let same : n ≡ c = eqb-true n c e in
    ap (period b) same ∙ round-zero b (suc (length (births b))) c (subst (λ (k : ℕ). Under b c k) same u)

pub under-new : (b new : Board) (c : ℕ) → IsWritten b new c → {n : ℕ} → Under b c n → Under new c n
under-new b new c w (one {n} q) = one (w.sources n ∙ q)
under-new b new c w (more {n} {s} q u) = more (w.sources n ∙ q) (under-new b new c w u)

-- a period as the clocks that go by another clock have it, and 0
pub scaled-same : (b new : Board) (c : ℕ) → IsWritten b new c → (n p : ℕ) → (eqb n c ≡ true → p ≡ 0) → scaled b n p ≡ scaled new n p
scaled-same b new c w n p none = go (eqb n c) refl
  where
    go : (t : Bool) → eqb n c ≡ t → scaled b n p ≡ scaled new n p
    go true e =
        ap (scaled b n) (none e) ∙ scaled-zero (mul_of b n) (div_of b n) ∙ sym (ap (scaled new n) (none e) ∙ scaled-zero (mul_of new n) (div_of new n))
    go false e = ap₂ (λ (mul div : ℕ). scaled_by mul div p) (sym (w.mul n e)) (sym (w.div n e))

-- the clocks that it goes by, and its own period where only its mul and div are written

same-up : (b new : Board) (c : ℕ) → IsWritten b new c → ((n : ℕ) → own_period new n ≡ own_period b n)
    → (d n : ℕ) → ((s : ℕ) → source_of b n ≡ Some s → Under b s c) → to_depth new d n ≡ to_depth b d n
same-up b new c w own zero n up = refl
same-up b new c w own (suc d) n up =
    ap (turn_by new (to_depth new d) n) (w.sources n)
    ∙ go (source_of b n) refl (λ s q. there s (up s q) (same-up b new c w own d s (λ t r. further b s (up s q) t r)))
  where
    there : (s : ℕ) → Under b s c → to_depth new d s ≡ to_depth b d s → scaled new s (to_depth new d s) ≡ scaled b s (to_depth b d s)
    there s u same =
        ap (scaled new s) same
        ∙ sym
        (scaled-same b new c w s (to_depth b d s)
        (λ e. let at : s ≡ c = eqb-true s c e in round-zero b d s (subst (λ (k : ℕ). Under b s k) (sym at) u)))

    go : (o : Option ℕ) → source_of b n ≡ o → ((s : ℕ) → source_of b n ≡ Some s → scaled new s (to_depth new d s) ≡ scaled b s (to_depth b d s))
        → turn_by new (to_depth new d) n o ≡ turn_by b (to_depth b d) n o
    go None q rest = own n
    go (Some s) q rest = rest s q

pub period-kept : (b new : Board) (c : ℕ) → IsWritten b new c → ((n : ℕ) → own_period new n ≡ own_period b n) → period new c ≡ period b c
unfolding period
period-kept b new c w own =
    ap (λ (l : _). to_depth new (suc (length l)) c) w.births ∙ same-up b new c w own (suc (length (births b))) c (λ s q. one q)
