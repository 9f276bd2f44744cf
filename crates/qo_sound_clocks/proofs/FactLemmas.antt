-- The law: what the soundness of clocks says.
use Rattle.std.proofs.Common.{◌≡◌, refl, ℕ, ◌<◌, ◌^◌, Bool, true, false, ◌||◌, nat_eq, Option, Some, None, arith}
use Rattle.qo_model.proofs.Common.{Board, child_period, period, source_of, among, leads, Leads, one, more}
use Rattle.std.specs.Option.{option_to_list}
use Rattle.std.proofs.lemmas.Bool.{eqb-true}
use Rattle.qo_model.proofs.PeriodLemmas.{period-fed}
use Rattle.qo_sound_clocks.specs.ClockFacts.{ClocksSayLaw, sources}
use Rattle.qo_sound_clocks.specs.SoundClocks.{SoundClocks}

module _ (b : Board) (h : SoundClocks b) where
  older : (n m : ℕ) → leads (sources b) n m ≡ true → m < n
  older n m e = go (source_of b n) (λ s q. h.older n s q) e
    where
      go : (o : Option ℕ) → ((s : ℕ) → o ≡ Some s → s < n) → among (option_to_list o) m ≡ true → m < n
      go None low q = cc
      go (Some s) low q = by (nat_eq m s) refl q
        where
          by : (t : Bool) → nat_eq m s ≡ t → (t || false) ≡ true → m < n
          by true p r = let is : m ≡ s = eqb-true m s p in let below : s < n = low s refl in omega (arith, is, below)
          by false p r = cc

  leads-older : {n m : ℕ} → Leads (sources b) n m → m < n
  leads-older (one {n} {m} e) = older n m e
  leads-older (more {n} {m} {k} e l) = let a : m < n = older n m e in let c : k < m = leads-older l in omega arith

  none-round : (c : ℕ) → ¬ (Leads (sources b) c c)
  none-round c l = let below : c < c = leads-older l in omega (arith, below)

  fed-fits : (c s : ℕ) → source_of b c ≡ Some s → period b c < 2 ^ 64
  fed-fits c s e =
      let is : period b c ≡ child_period b s = period-fed b c s e in
      let fits : child_period b s < 2 ^ 64 = h.fit.fits s in
      omega (arith, is, fits)

pub clocks_say_lem : ClocksSayLaw
clocks_say_lem = record { none_round = none-round; fit = λ b h. h.fit; fed = fed-fits }
