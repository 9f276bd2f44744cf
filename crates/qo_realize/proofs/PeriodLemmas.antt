-- The periods that are kept of clocks, as boards have them: where the clocks of a board stay, and what is kept, it stays right; and where clocks are fed, whose
-- periods are right.
use Rattle.std.proofs.Common.{◌<◌, arith, eqb, unwrap_or, ◌≡◌, refl, ap, sym, ◌∙◌, ℕ, Bool, true, false, List, [], codes, Option, Some, None, is_none, option_and_then, rules, subst}
use Rattle.std.specs.List.{AllByRecursion}
use Rattle.std.specs.Option.{option_map_or}
use Rattle.std.proofs.lemmas.Bool.{eq-eqb, eqb-true}
use Rattle.std.proofs.lemmas.Bool.Decides.{nat_tests}
use Rattle.std.proofs.lemmas.Option.{same_Some}
use Rattle.qo_values.specs.declared.births.TheConstants.{SYSTEM_CLOCK_BIRTH}
use Rattle.qo_kinds.specs.declared.bodies.Body.{Body}
use Rattle.qo_slots.specs.declared.keys.Key.{Key}
use Rattle.qo_model.specs.Board.{Board, Record, is_live, record_of}
use Rattle.qo_model.specs.Clocks.{div_of, mul_of, own_period, source_of, weak_in}
use Rattle.qo_model.specs.Devices.{bridge_of, clock_of}
use Rattle.qo_model.specs.Opening.{opening_board}
use Rattle.qo_model.specs.Types.{types}
use Rattle.qo_model.proofs.FirstSlotLemmas.{named_in}
use Rattle.qo_object.specs.BoardObject.{birth_of}
use Rattle.qo_object.specs.Content.{Content}
use Rattle.qo_heap.specs.Acts.{Acts, KeepsPeriods, periods_of}
use Rattle.qo_heap.specs.Board.{Shows}
use Rattle.qo_heap.specs.Objects.{Objects, content_of, no_objects_made, with_edit}
use Rattle.qo_heap.proofs.ActsReads.{acts-slots}
use Rattle.qo_clocks.specs.Kept.{Clocked, IsClocked, PeriodsKept, kept_turn}
use Rattle.qo_clocks.specs.Periods.{scaled_on}
use Rattle.qo_clocks.specs.Reads.{own_on, source_on}
use Rattle.qo_clocks.proofs.ClockSlots.{read-after, slots-after}
use Rattle.qo_clocks.proofs.KeptLemmas.{kept-same, slots-alike}
use Rattle.qo_clocks.proofs.ReadLemmas.{shows-source}
use Rattle.qo_plug.specs.KeptPeriods.{FedOrNew, SourcesThere}
use Rattle.qo_properties.specs.KeptPeriods.{OwnKept}
use Rattle.qo_sound.proofs.FirmBoardLemmas.{WellFormed}
use Rattle.qo_sound.proofs.SearchLemmas.{all-found}
use Rattle.qo_sound_bounds.proofs.ClockLemmas.{clock-live}
use Rattle.qo_sound_clocks.specs.SoundClocks.{SoundClocks}
use Rattle.qo_sound_clocks.proofs.FactLemmas.{clocks_say_lem}
use Rattle.qo_unplug.proofs.PeriodLemmas.{SameClocks, periods-stay, turn-at, turn_at}

-- the opening board: no clock goes by another

sourceless : AllByRecursion (λ (r : Record). is_none (option_and_then weak_in (named_in (codes "source") r.slots)) ≡ true) opening_board.records
unfolding opening_board types
sourceless = search rules

none-some : (o : Option ℕ) → is_none o ≡ true → o ≡ None
none-some None e = refl
none-some (Some s) e = cc

opening-none : (n : ℕ) → source_of opening_board n ≡ None
opening-none n = none-some (source_of opening_board n) (go (record_of opening_board n) refl)
  where
    go : (o : Option Record) → record_of opening_board n ≡ o
        → is_none (option_and_then weak_in (named_in (codes "source") (option_map_or (λ (r : Record). r.slots) o []))) ≡ true
    go None e = refl
    go (Some r) e =
        all-found (λ (x : Record). is_none (option_and_then weak_in (named_in (codes "source") x.slots)) ≡ true) n opening_board.records sourceless r e

pub opening-periods : (w : Objects) → Shows opening_board w → OwnKept w → PeriodsKept w
opening-periods w t own n c there =
    let both : periods_of c ≡ (own_on w n, scaled_on w n (own_on w n)) = own n c there in
    let period : c.side.period ≡ own_on w n = ap (λ (y : ℕ × ℕ). y.0) both in
    let turn : kept_turn w n ≡ own_on w n = turn-at w n ∙ ap (turn_at w n) (sym (shows-source opening_board w t n) ∙ opening-none n) in
    record { period = period ∙ sym turn; child = ap (λ (y : ℕ × ℕ). y.1) both ∙ ap (scaled_on w n) (sym period) }

pub own-empty : OwnKept no_objects_made
own-empty n c e = absurd (let clash : None ≡ Some c = e in cc)

-- what is kept of clocks stays right where rows do; over acts that leave periods; and where a body is written

pub rows-periods : (v w : Objects) → w.rows ≡ v.rows → PeriodsKept v → PeriodsKept w
rows-periods v w same kept n c there =
    let its : IsClocked (record v { rows = w.rows }) n c =
    subst (λ (rows : List (Key × Content)). PeriodsKept (record v { rows = rows })) (sym same) kept n c there in
    record { period = its.period; child = its.child }

pub acts-periods : (v w : Objects) → Acts v w → KeepsPeriods v w → PeriodsKept v → PeriodsKept w
acts-periods v w acts = kept-same v w (λ n. slots-alike v w n (acts-slots v w acts n))

pub body-periods : (n : ℕ) (body : Body) (v : Objects) → PeriodsKept v → PeriodsKept (with_edit n (λ (c : Content). record c { body = body }) v)
body-periods n body v =
    kept-same v (with_edit n put v) (λ m. slots-alike v (with_edit n put v) m (slots-after n put (λ c. refl) v m)) (read-after periods_of n put (λ c. refl) v)
  where
    put : Content → Content
    put = λ c. record c { body = body }

-- on a sound board whose heap keeps right periods clocks are as they should be
pub clocked-sound : (b : Board) (v : Objects) → SoundClocks b → PeriodsKept v → Clocked b v
clocked-sound b v sound kept = record { fits = sound.fit; none_round = clocks_say_lem.none_round b sound; kept = kept }

-- what changes no object leaves the clocks
pub records-clocks : (b c : Board) → c.records ≡ b.records → ((n s : ℕ) → source_of c n ≡ Some s → is_live c s ≡ true) → SameClocks (λ _. false) b c
records-clocks b c e linked =
    record {
      linked = λ n s goes gone. absurd (let clash : true ≡ false = sym (linked n s goes) ∙ gone in cc);
      apart = λ n s other goes. refl;
      old = λ n other was live. record {
        own = ap (λ (rs : List Record). own_period (record b { records = rs }) n) e;
        mul = ap (λ (rs : List Record). mul_of (record b { records = rs }) n) e;
        div = ap (λ (rs : List Record). div_of (record b { records = rs }) n) e;
        source = ap (λ (rs : List Record). source_of (record b { records = rs }) n) e;
      };
      new = λ n other gone live.
          absurd (let clash : true ≡ false = sym live ∙ ap (λ (rs : List Record). is_live (record b { records = rs }) n) e ∙ gone in cc);
    }

-- a device is plugged whose clock is fed
abbrev pub is_fed : Option ℕ → ℕ → Bool
is_fed None n = false
is_fed (Some m) n = eqb n m

pub fed-periods : (b c : Board) (one : ℕ) (v w : Objects) → Shows b v → Shows c w → SoundClocks c → SameClocks (is_fed (clock_of c one)) b c
    → ((n : ℕ) → clock_of c one ≡ Some n → (s : ℕ) × (source_of c n ≡ Some s)) → FedOrNew c one v w → PeriodsKept v → PeriodsKept w
fed-periods b c one v w s t sound same goes fed kept =
    periods-stay (is_fed (clock_of c one)) b c v w s t same (λ n k other e. fed.others n k (apart n other) e) kept (λ n x p there. its n x there (own n p))
  where
    apart : (n : ℕ) → is_fed (clock_of c one) n ≡ false → clock_of c one ≡ Some n → ⊥
    apart n other at = let clash : true ≡ false = sym (eq-eqb n n refl) ∙ sym (ap (λ (o : Option ℕ). is_fed o n) at) ∙ other in cc

    own : (n : ℕ) → is_fed (clock_of c one) n ≡ true → clock_of c one ≡ Some n
    own n p = go (clock_of c one) refl
      where
        go : (o : Option ℕ) → clock_of c one ≡ o → clock_of c one ≡ Some n
        go None q = absurd (let clash : false ≡ true = sym (ap (λ (o : Option ℕ). is_fed o n) q) ∙ p in cc)
        go (Some m) q = q ∙ ap Some (sym (eqb-true n m (sym (ap (λ (o : Option ℕ). is_fed o n) q) ∙ p)))

    its : (n : ℕ) (x : Content) → content_of w n ≡ Some x → clock_of c one ≡ Some n → IsClocked w n x
    its n x there at = go (source_on w n) refl (sym (shows-source c w t n) ∙ (goes n at).1)
      where
        go : (o : Option Key) → source_on w n ≡ o → birth_of o ≡ Some (goes n at).0 → IsClocked w n x
        go None p e = absurd (let clash : None ≡ Some (goes n at).0 = e in cc)
        go (Some key) p e =
            let older : (goes n at).0 < n = sound.older n (goes n at).0 (goes n at).1 in
            let is : key.birth ≡ (goes n at).0 = same_Some key.birth (goes n at).0 e in
            let other : eqb key.birth n ≡ false = grind (arith, nat_tests, older, is) in
            fed.its n at key x p other there

-- the clock that a device on a bus goes by is there
pub sources-there : (b : Board) → WellFormed b → is_live b SYSTEM_CLOCK_BIRTH ≡ true → SourcesThere b
sources-there b formed system bus = bridge (bridge_of b bus)
  where
    clock : (d : ℕ) (o : Option ℕ) → clock_of b d ≡ o → is_live b (unwrap_or o SYSTEM_CLOCK_BIRTH) ≡ true
    clock d None e = system
    clock d (Some k) e = clock-live b formed d k e

    bridge : (o : Option ℕ) → is_live b (unwrap_or (option_and_then (clock_of b) o) SYSTEM_CLOCK_BIRTH) ≡ true
    bridge None = system
    bridge (Some d) = clock d (clock_of b d) refl
