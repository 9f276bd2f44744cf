-- The periods that are kept of clocks, as boards have them: where the clocks of a board stay, and what is kept, it stays right.
use Rattle.std.proofs.Common.{◌≡◌, ◌⊎◌, inl, inr, refl, ap, ap₂, sym, ◌∙◌, ℕ, ◌-◌, ◌^◌, min, Bool, true, false, Option, Some, None, is_some, option_map, codes}
use Rattle.std.specs.Option.{option_map_or}
use Rattle.std.proofs.lemmas.Option.{same_Some}
use Rattle.qo_slots.specs.declared.keys.Key.{Key}
use Rattle.qo_model.specs.Board.{Board, is_live, slots_at}
use Rattle.qo_model.specs.Clocks.{div_of, mul_of, own_period, scaled_by, source_of}
use Rattle.qo_model.proofs.PeriodLemmas.{scaled-zero}
use Rattle.qo_object.specs.BoardObject.{birth_of}
use Rattle.qo_object.specs.Content.{Content}
use Rattle.qo_heap.specs.Acts.{clocked_in, periods_of}
use Rattle.qo_heap.specs.Board.{Shows}
use Rattle.qo_heap.specs.Objects.{Objects, content_of}
use Rattle.qo_heap.proofs.BoardReads.{shows-live}
use Rattle.qo_clocks.specs.Kept.{IsClocked, PeriodsKept, child_kept, kept_turn}
use Rattle.qo_clocks.specs.Periods.{scaled_on}
use Rattle.qo_clocks.specs.Reads.{div_on, mul_on, own_on, source_on}
use Rattle.qo_clocks.proofs.KeptLemmas.{turn_by}
use Rattle.qo_clocks.proofs.ReadLemmas.{shows-div, shows-mul, shows-own, shows-source}
use Rattle.qo_properties.specs.KeptClaims.{KeptBefore}
use Rattle.qo_properties.proofs.KeptLemmas.{periods-before}
use Rattle.qo_sound_clocks.proofs.ReadLemmas.{Reads}
use Rattle.qo_sound_clocks.proofs.SlotLemmas.{number-same}
use Rattle.qo_unplug.proofs.ValueLemmas.{KeepsValues}

-- a clock of a board is one of another: its numbers and its source are the same
pub record SameClock (b c : Board) (n : ℕ) : Type 0 where
  pub own : own_period c n ≡ own_period b n
  pub mul : mul_of c n ≡ mul_of b n
  pub div : div_of c n ≡ div_of b n
  pub source : source_of c n ≡ source_of b n

-- so are all that are on both but some, by which no other goes; who is new goes by none and has no period; and what a
-- clock goes by is there, or never was
pub record SameClocks (fed : ℕ → Bool) (b c : Board) : Type 0 where
  pub linked : (n s : ℕ) → source_of c n ≡ Some s → is_live c s ≡ false → is_live b s ≡ false
  pub apart : (n s : ℕ) → fed n ≡ false → source_of c n ≡ Some s → fed s ≡ false
  pub old : (n : ℕ) → fed n ≡ false → is_live b n ≡ true → is_live c n ≡ true → SameClock b c n
  pub new : (n : ℕ) → fed n ≡ false → is_live b n ≡ false → is_live c n ≡ true → (own_period c n ≡ 0) × (source_of c n ≡ None)

-- of who is there, but of these, the same periods were kept before; or it was not there, and none are
abbrev pub OtherPeriods : (ℕ → Bool) → Objects → Objects → Type 0
OtherPeriods fed v w =
    (n : ℕ) (k : ℕ × ℕ) → fed n ≡ false → clocked_in w n ≡ Some k → (clocked_in v n ≡ Some k) ⊎ ((clocked_in v n ≡ None) × (k ≡ (0, 0)))

child-in : (v : Objects) (n : ℕ) → child_kept v n ≡ option_map_or (λ (p : ℕ × ℕ). p.1) (clocked_in v n) 0
child-in v n = go (content_of v n)
  where
    go : (o : Option Content) → option_map_or (λ (c : Content). c.side.child) o 0 ≡ option_map_or (λ (p : ℕ × ℕ). p.1) (option_map periods_of o) 0
    go None = refl
    go (Some c) = refl

-- a clock's period, by the birth of its source
abbrev pub turn_at : Objects → ℕ → Option ℕ → ℕ
turn_at v n o = elim o as (λ _. ℕ) [ None ↦ own_on v n | Some s ↦ child_kept v s ]

pub turn-at : (v : Objects) (n : ℕ) → kept_turn v n ≡ turn_at v n (birth_of (source_on v n))
turn-at v n = go (source_on v n)
  where
    go : (o : Option Key) → turn_by v n o ≡ turn_at v n (birth_of o)
    go None = refl
    go (Some s) = refl

pub none-scaled : (mul div : ℕ) → min (scaled_by mul div 0) (2 ^ 64 - 1) ≡ 0
none-scaled mul div = ap (λ (k : ℕ). min k (2 ^ 64 - 1)) (scaled-zero mul div)

module _ (fed : ℕ → Bool) (b c : Board) (v w : Objects) (s : Shows b v) (t : Shows c w) (same : SameClocks fed b c) (either : OtherPeriods fed v w)
    (kept : PeriodsKept v) where
  child-stays : (m : ℕ) → fed m ≡ false → (is_live c m ≡ false → is_live b m ≡ false) → child_kept w m ≡ child_kept v m
  child-stays m other lost = go (content_of w m) refl
    where
      by : (k : ℕ × ℕ) → clocked_in w m ≡ Some k → (clocked_in v m ≡ Some k) ⊎ ((clocked_in v m ≡ None) × (k ≡ (0, 0))) → child_kept w m ≡ child_kept v m
      by k now (inl was) = child-in w m ∙ ap (λ (o : Option (ℕ × ℕ)). option_map_or (λ (p : ℕ × ℕ). p.1) o 0) (now ∙ sym was) ∙ sym (child-in v m)
      by k now (inr new) =
          child-in w m
          ∙ ap (λ (o : Option (ℕ × ℕ)). option_map_or (λ (p : ℕ × ℕ). p.1) o 0) now
          ∙ ap (λ (p : ℕ × ℕ). p.1) new.1
          ∙ sym (child-in v m ∙ ap (λ (o : Option (ℕ × ℕ)). option_map_or (λ (p : ℕ × ℕ). p.1) o 0) new.0)

      none : is_live b m ≡ false → (o : Option Content) → content_of v m ≡ o → option_map_or (λ (d : Content). d.side.child) o 0 ≡ 0
      none gone None p = refl
      none gone (Some d) p = absurd (let clash : true ≡ false = sym (shows-live b v s m ∙ ap is_some p) ∙ gone in cc)

      go : (o : Option Content) → content_of w m ≡ o → child_kept w m ≡ child_kept v m
      go None p =
          ap (λ (o : Option Content). option_map_or (λ (d : Content). d.side.child) o 0) p
          ∙ sym (none (lost (shows-live c w t m ∙ ap is_some p)) (content_of v m) refl)
      go (Some d) p = let now : clocked_in w m ≡ Some (periods_of d) = ap (option_map periods_of) p in by (periods_of d) now (either m (periods_of d) other now)

  module _ (n : ℕ) (other : fed n ≡ false) (x : Content) (there : content_of w n ≡ Some x) where
    live : is_live c n ≡ true
    live = shows-live c w t n ∙ ap is_some there

    old : (o : Option Content) → content_of v n ≡ o → option_map periods_of o ≡ Some (periods_of x) → IsClocked w n x
    old None p e = absurd (let clash : None ≡ Some (periods_of x) = e in cc)
    old (Some d) p e =
        record {
          period = sym (ap (λ (y : ℕ × ℕ). y.0) both) ∙ k.period ∙ sym turn;
          child = sym (ap (λ (y : ℕ × ℕ). y.1) both) ∙ k.child ∙ ap (scaled_on v n) (ap (λ (y : ℕ × ℕ). y.0) both) ∙ sym (scaled x.side.period);
        }
      where
        both : periods_of d ≡ periods_of x
        both = same_Some (periods_of d) (periods_of x) e

        k : IsClocked v n d
        k = kept n d p

        alike : SameClock b c n
        alike = same.old n other (shows-live b v s n ∙ ap is_some p) live

        source : birth_of (source_on w n) ≡ birth_of (source_on v n)
        source = sym (shows-source c w t n) ∙ alike.source ∙ shows-source b v s n

        turns : (o : Option ℕ) → birth_of (source_on v n) ≡ o → turn_at w n o ≡ turn_at v n o
        turns None q = sym (shows-own c w t n) ∙ alike.own ∙ shows-own b v s n
        turns (Some m) q =
            let goes : source_of c n ≡ Some m = shows-source c w t n ∙ source ∙ q in
            child-stays m (same.apart n m other goes) (same.linked n m goes)

        turn : kept_turn w n ≡ kept_turn v n
        turn = turn-at w n ∙ ap (turn_at w n) source ∙ turns (birth_of (source_on v n)) refl ∙ sym (turn-at v n)

        scaled : (p : ℕ) → scaled_on w n p ≡ scaled_on v n p
        scaled p =
            ap₂ (λ (mul div : ℕ). min (scaled_by mul div p) (2 ^ 64 - 1)) (sym (shows-mul c w t n) ∙ alike.mul ∙ shows-mul b v s n)
            (sym (shows-div c w t n) ∙ alike.div ∙ shows-div b v s n)

    not-there : (o : Option Content) → option_map periods_of o ≡ None → is_some o ≡ false
    not-there None e = refl
    not-there (Some d) e = absurd (let clash : Some (periods_of d) ≡ None = e in cc)

    new : clocked_in v n ≡ None → periods_of x ≡ (0, 0) → IsClocked w n x
    new gone bare =
        let fresh : (own_period c n ≡ 0) × (source_of c n ≡ None) = same.new n other (shows-live b v s n ∙ not-there (content_of v n) gone) live in
        let period : x.side.period ≡ 0 = ap (λ (y : ℕ × ℕ). y.0) bare in
        record {
          period = period ∙ sym (turn-at w n ∙ ap (turn_at w n) (sym (shows-source c w t n) ∙ fresh.1) ∙ sym (shows-own c w t n) ∙ fresh.0);
          child = ap (λ (y : ℕ × ℕ). y.1) bare ∙ sym (ap (scaled_on w n) period ∙ none-scaled (mul_on w n) (div_on w n));
        }

    clocked : IsClocked w n x
    clocked = by (either n (periods_of x) other (ap (option_map periods_of) there))
      where
        by : (clocked_in v n ≡ Some (periods_of x)) ⊎ ((clocked_in v n ≡ None) × (periods_of x ≡ (0, 0))) → IsClocked w n x
        by (inl was) = old (content_of v n) refl was
        by (inr fresh) = new fresh.0 fresh.1

  -- where what is kept of those is right too
  pub periods-stay : ((n : ℕ) (x : Content) → fed n ≡ true → content_of w n ≡ Some x → IsClocked w n x) → PeriodsKept w
  periods-stay its n x there = go (fed n) refl
    where
      go : (u : Bool) → fed n ≡ u → IsClocked w n x
      go true p = its n x p there
      go false p = clocked n p x there

-- where no object's values change, nor what the clocks go by that stay
pub same-clocks : (b c : Board) → Reads b → Reads c → KeepsValues b c → ((n : ℕ) → is_live c n ≡ true → source_of c n ≡ source_of b n)
    → ((n s : ℕ) → source_of c n ≡ Some s → is_live c s ≡ false → is_live b s ≡ false) → SameClocks (λ _. false) b c
same-clocks b c on now values source linked =
    record {
      linked = linked;
      apart = λ n s other goes. refl;
      old = λ n other was live. record {
        own = now.own n ∙ number-same (codes "period") 0 (slots_at b n) (slots_at c n) (values.same n live).period ∙ sym (on.own n);
        mul = now.mul n ∙ number-same (codes "mul") 1 (slots_at b n) (slots_at c n) (values.same n live).mul ∙ sym (on.mul n);
        div = now.div n ∙ number-same (codes "div") 1 (slots_at b n) (slots_at c n) (values.same n live).div ∙ sym (on.div n);
        source = source n live;
      };
      new = λ n other gone live. absurd (let clash : true ≡ false = sym (values.live n live) ∙ gone in cc);
    }

pub before-stay : (b c : Board) (v w : Objects) → Shows b v → Shows c w → SameClocks (λ _. false) b c → KeptBefore v w → PeriodsKept v → PeriodsKept w
before-stay b c v w s t same before kept =
    periods-stay (λ _. false) b c v w s t same (λ n k other e. inl (periods-before v w before n k e)) kept (λ n x e there. not-fed n x e)
  where
    not-fed : (n : ℕ) (x : Content) → ◌≡◌ {A = Bool} false true → IsClocked w n x
    not-fed n x e = cc
