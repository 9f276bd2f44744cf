-- What is kept of clocks: each call of the board leaves that right.
use Rattle.std.proofs.Common.{◌≡◌, inl, inr, refl, ap, sym, subst, ℕ, Bool, true, false, cond, List, Option, Some, None, is_some, Result, Ok, Err, OnErr}
use Rattle.std.specs.Option.{option_map_or}
use Rattle.qo_values.specs.declared.codes.Code.{Code}
use Rattle.qo_values.specs.declared.kinds.TypeId.{TypeId}
use Rattle.qo_values.specs.declared.properties.Val.{Val}
use Rattle.qo_model.specs.Access.{write_at}
use Rattle.qo_model.specs.Board.{Board}
use Rattle.qo_model.specs.ClockProperties.{clock_property_written, led_to, set_property, set_row}
use Rattle.qo_model.specs.FinalNotesRuns.{Change, added, after_write, changed, wrote}
use Rattle.qo_model.specs.Objects.{Given, attempted_as, barred_by, with_attempt}
use Rattle.qo_model.specs.Plug.{Wanted, cut_attempt, plug, plug_attempt}
use Rattle.qo_model.specs.Properties.{object_at, write}
use Rattle.qo_model.specs.Types.{TypeInfo, type_named}
use Rattle.qo_heap.specs.Board.{Shows}
use Rattle.qo_heap.specs.Objects.{Objects}
use Rattle.qo_clocks.specs.Kept.{PeriodsKept}
use Rattle.qo_plug.specs.Admission.{IfRefused}
use Rattle.qo_plug.specs.Answers.{IsCut, IsRefused}
use Rattle.qo_plug.specs.Drafts.{CutShort}
use Rattle.qo_plug.specs.KeptPeriods.{SourcesThere}
use Rattle.qo_plug.specs.declared.refusals.AddRefusal.{AddRefusal}
use Rattle.qo_plug.specs.declared.refusals.AddRefusal.TheVariants.{Refused, Memory}
use Rattle.qo_properties.specs.Additions as properties
use Rattle.qo_properties.specs.KeptClaims.{KeptBefore, KeptOrNew}
use Rattle.qo_properties.specs.KeptPeriods.{KeepsClocks}
use Rattle.qo_properties.specs.Writes as writes
use Rattle.qo_properties.specs.Writes.{is_of_clock, is_of_clock_at}
use Rattle.qo_properties.specs.declared.refusals.Refusal.{Refusal}
use Rattle.qo_properties.specs.declared.refusals.Refusal.TheVariants as object
use Rattle.qo_sound.proofs.ViewLemmas.{rest-from_sound}
use Rattle.qo_sound_bounds.proofs.ClockLemmas.{system-live}
use Rattle.qo_sound_phases.proofs.ResetTreeLemmas.{placed}
use Rattle.qo_realize.specs.SoundBoard.{SoundBoard}
use Rattle.qo_realize.proofs.ClockChangeLemmas.{beside-periods, changed-periods}
use Rattle.qo_sound_claims.proofs.StayLawLemmas.{refused-same}
use Rattle.qo_realize.proofs.PeriodLemmas.{clocked-sound, sources-there}

-- what was kept before, or is new
before-new : (v w : Objects) → KeptBefore v w → KeptOrNew v w
before-new v w before n k e = inl (before n k e)

-- objects made and removed by command, and values written

pub command-periods : (b : Board) (change : Change) (v w : Objects) → SoundBoard b → Shows b v → Shows (changed b change) w → KeptBefore v w
    → PeriodsKept v → PeriodsKept w
command-periods b change v w good s t before = changed-periods b change v w good.run.devices good.sources s t (before-new v w before)

-- what leaves the objects of the board
left-periods : (b c : Board) (v w : Objects) → SoundBoard b → c.records ≡ b.records → Shows b v → Shows c w → KeptOrNew v w → PeriodsKept v → PeriodsKept w
left-periods b c v w good same s t either = beside-periods b c v w good.run.devices good.sources same s t either

attempted-same : (b : Board) (driver id : List ℕ) → (attempted_as b driver id).records ≡ b.records
attempted-same b driver id = by (barred_by b driver id) (type_named driver)
  where
    by : (bar : Option Code) (row : Option TypeInfo)
        → (elim bar as (λ o. Board) [ Some code ↦ b | None ↦ option_map_or (λ (row : TypeInfo). with_attempt b row.id) row b ]).records ≡ b.records
    by (Some code) row = refl
    by None None = refl
    by None (Some row) = refl

pub add-periods : (b : Board) (driver id : List ℕ) (props : List Given) (result : Result (Unit {0}) Refusal) (v w : Objects) → SoundBoard b
    → Shows b v → properties.Adds b driver id props result w → KeptOrNew v w → PeriodsKept v → PeriodsKept w
add-periods b driver id props (Ok u) v w good s h = changed-periods b (added driver id props) v w good.run.devices good.sources s h.1
add-periods b driver id props (Err (object.Refused code)) v w good s h = changed-periods b (added driver id props) v w good.run.devices good.sources s h.1
add-periods b driver id props (Err object.Memory) v w good s (inl shows) = left-periods b b v w good refl s shows
add-periods b driver id props (Err object.Memory) v w good s (inr shows) =
    left-periods b (attempted_as b driver id) v w good (attempted-same b driver id) s shows

-- what is written is no number of a clock, or the clocks are kept
write-only : (b d : Board) (path name : List ℕ) (val : Val) → write_at b path name val ≡ Ok d → is_of_clock_at b path name ≡ false
    → (n : ℕ) × (write b n name val ≡ Ok d)
write-only b d path name val is none = go (object_at b path) is none
  where
    by : (n : ℕ) (t : Bool) → t ≡ false → cond t (clock_property_written b val (led_to b n name)) (write b n name val) ≡ Ok d → write b n name val ≡ Ok d
    by n true p q = cc
    by n false p q = q

    go : (o : Result ℕ Code) → elim o as (λ _. Result Board Code) [ Ok n ↦ set_property b n name val | Err code ↦ Err code ] ≡ Ok d
        → elim o as (λ _. Bool) [ Ok n ↦ is_of_clock b n name | Err code ↦ false ] ≡ false → (n : ℕ) × (write b n name val ≡ Ok d)
    go (Ok n) q p = (n, by n (is_some (set_row b n name)) p q)
    go (Err code) q p = cc

pub write-periods : (b : Board) (path name : List ℕ) (val : Val) (result : Result (Unit {0}) Refusal) (v w : Objects) → SoundBoard b → Shows b v
    → writes.Writes w result (write_at b path name val) → OnErr result (w ≡ v) → (is_of_clock_at b path name ≡ false → KeptBefore v w)
    → (is_of_clock_at b path name ≡ true → KeepsClocks v w) → PeriodsKept v → PeriodsKept w
write-periods b path name val (Ok u) v w good s (d, is, t) same kept clocks periods = by (is_of_clock_at b path name) refl
  where
    by : (u : Bool) → is_of_clock_at b path name ≡ u → PeriodsKept w
    by true p = (clocks p b s (clocked-sound b v good.run.clocks periods) d t).kept
    by false p =
        let n = write-only b d path name val is p in
        command-periods b (wrote n.0 name val) v w good s (subst (λ (c : Board). Shows c w) (sym (ap (after_write b) n.1)) t) (kept p) periods
write-periods b path name val (Err e) v w good s told same kept clocks periods = subst PeriodsKept (sym same) periods

-- a device is added, or not

-- the clock for a bus is there
pub good-sources : (b : Board) → SoundBoard b → SourcesThere b
good-sources b good =
    sources-there b (rest-from_sound b good.run.devices.tree).used.firm (system-live b (placed b good.run.devices))

pub late-periods : (b : Board) (a : Wanted) (stage : ℕ) (code : Code) (v w : Objects) → SoundBoard b → Shows b v → IsRefused b a stage code w → KeptOrNew v w
    → PeriodsKept v → PeriodsKept w
late-periods b a stage code v w good s refused =
    left-periods b (plug b a).board v w good (refused-same b a (stage, code) refused.refusal) s refused.shown

pub barred-periods : (T : Type 0) (b : Board) (a : Wanted) (e : AddRefusal) (v w : Objects) → SoundBoard b → Shows b v
    → IfRefused {T = T} (Err e) (λ stage code. IsRefused b a stage code w) → (e ≡ Memory → IsCut b a w) → KeptOrNew v w → PeriodsKept v → PeriodsKept w
barred-periods T b a (Refused stage code) v w good s refused cut = late-periods b a stage code v w good s refused
barred-periods T b a Memory v w good s refused cut = by (cut refl)
  where
    Keeps : Type 0
    Keeps = KeptOrNew v w → PeriodsKept v → PeriodsKept w

    short : (t : TypeId) → CutShort b t w → Keeps
    short t (inl shows) = left-periods b b v w good refl s shows
    short t (inr (i, joined, low, high, shows)) = left-periods b (cut_attempt b t i joined) v w good refl s shows

    by : IsCut b a w → Keeps
    by (inl shows) = left-periods b b v w good refl s shows
    by (inr (t, named, unbarred, early, short_of)) = short t short_of

pub given_up-periods : (b : Board) (t : TypeId) (bus : ℕ) (v w : Objects) → SoundBoard b → Shows b v → Shows (plug_attempt b t bus 4) w → KeptOrNew v w
    → PeriodsKept v → PeriodsKept w
given_up-periods b t bus v w good s shows = left-periods b (plug_attempt b t bus 4) v w good refl s shows
