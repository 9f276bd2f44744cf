-- Each call leaves to each body the claims that its object is due, and no others.
use Rattle.std.proofs.Common.{◌≡◌, refl, ap, sym, subst, ◌∙◌, ℕ, false, codes, List, Option, None, Some, Result, Ok, Err, OnErr, inl, inr, is_some, arith}
use Rattle.std.specs.Option.{option_map_or}
use Rattle.qo_values.specs.Registers.{Effect, body_write, Registers, bare}
use Rattle.qo_values.specs.declared.codes.Code.{Code}
use Rattle.qo_values.specs.declared.kinds.ResetKind.{ResetKind}
use Rattle.qo_values.specs.declared.kinds.ResetKind.TheVariants.{Cold}
use Rattle.qo_values.specs.declared.kinds.TypeId.{TypeId}
use Rattle.qo_values.specs.declared.properties.Val.{Val}
use Rattle.qo_buses.specs.Rings.{claimed_ring}
use Rattle.qo_slots.specs.declared.keys.Key.{Key}
use Rattle.qo_object.specs.Content.{Content}
use Rattle.qo_model.specs.Access.{write_at}
use Rattle.qo_model.specs.Board.{Board, Record, record_of}
use Rattle.qo_model.specs.Clocks.{device_period, div_of, mul_of}
use Rattle.qo_model.specs.FinalNotesRuns.{Change, added, after_write, changed, wrote}
use Rattle.qo_model.specs.Objects.{Given, attempted_as, barred_by, object_add, with_attempt}
use Rattle.qo_model.specs.Opening.{opening_board}
use Rattle.qo_model.specs.Plug.{Wanted, cut_attempt, plug, plug_attempt}
use Rattle.qo_model.specs.Reset.{pulse}
use Rattle.qo_model.specs.Types.{TypeInfo, is_a, type_named}
use Rattle.qo_model.proofs.ClockPropertyLemmas.{write_at-cases}
use Rattle.qo_heap.specs.Board.{Shows}
use Rattle.qo_heap.specs.Objects.{Objects}
use Rattle.qo_hotplug.specs.Hotplug.{Asked}
use Rattle.qo_plug.specs.Answers.{IsAdded, IsCut, IsRefused}
use Rattle.qo_plug.specs.Admission.{IfRefused}
use Rattle.qo_plug.specs.Drafts.{CutShort}
use Rattle.qo_plug.specs.KeptClaims.{ClaimsOrNewBut}
use Rattle.qo_plug.specs.declared.adding.Added.{Added}
use Rattle.qo_plug.specs.declared.refusals.AddRefusal.{AddRefusal}
use Rattle.qo_plug.specs.declared.refusals.AddRefusal.TheVariants.{Refused, Memory}
use Rattle.qo_properties.specs.Additions as properties
use Rattle.qo_properties.specs.KeptClaims.{ClaimsBefore, KeptBefore, KeptOrNew, NoneKept, kept_by}
use Rattle.qo_properties.proofs.KeptLemmas.{claims-before, claims-new}
use Rattle.qo_properties.specs.Writes as writes
use Rattle.qo_properties.specs.declared.refusals.Refusal.{Refusal}
use Rattle.qo_properties.specs.declared.refusals.Refusal.TheVariants as object
use Rattle.qo_sound_claims.specs.ClaimsStay.{ClaimsAlike, ClaimsKeep}
use Rattle.qo_sound_claims.specs.SoundBackends.{SoundBackends}
use Rattle.qo_sound_claims.proofs.StayLawLemmas.{claims_stay_lem}
use Rattle.qo_sound_clocks.specs.RegisterWrites.{registers_set}
use Rattle.qo_sound_clocks.proofs.RegisterLemmas.{registers_kept_lem}
use Rattle.qo_sound_devices.specs.SoundDevices.{SoundDevices}
use Rattle.qo_sound_devices.proofs.DevicesLawLemmas.{devices_kept_lem}
use Rattle.qo_unplug.specs.RealizedClaims.{KeepsDue}
use Rattle.qo_realize.specs.BoardClaims.{KeepsClaims, claims_due}
use Rattle.qo_realize.specs.Registers.{guest_written, pushed, registers_written}
use Rattle.qo_realize.proofs.DueLemmas.{added-due, before-due, is-taken, new-due, opening-due}
use Rattle.qo_realize.proofs.RegisterWriteLemmas.{written-all}

-- one step of the board and the next

none-keep : (b : Board) → ClaimsKeep b b
none-keep b = claims_stay_lem.beside b b refl

alike-then : (b c d : Board) (n : ℕ) → ClaimsAlike b c n → ClaimsAlike c d n → ClaimsAlike b d n
alike-then b c d n h k =
    record {
      realized = h.realized;
      kind = k.kind ∙ h.kind;
      bus = k.bus ∙ h.bus;
      slot = k.slot ∙ h.slot;
      ring = k.ring ∙ h.ring;
      backend = λ is. k.backend (ap (λ (t : Option TypeId). option_map_or (λ (u : TypeId). is_a u (codes "mem-dimm")) t false) h.kind ∙ is) ∙ h.backend is;
      range = k.range ∙ h.range;
    }

keep-then : (b c d : Board) → ClaimsKeep b c → ClaimsKeep c d → ClaimsKeep b d
keep-then b c d h k =
    record {
      stay = λ n lit. let later = k.stay n lit in alike-then b c d n (h.stay n later.realized) later;
      same = λ n. k.same n ∙ h.same n;
    }

-- a heap and the board that it shows

-- each board that it shows has the same objects
pub all-claims : (c : Board) (w : Objects) → Shows c w → KeepsDue (claims_due c) c w → KeepsClaims w
all-claims c w s h d t = before-due c d w s h w (claims_stay_lem.beside c d (t.records ∙ sym s.records)) (λ n k e. e)

pub rows-claims : (b : Board) (v w : Objects) → Shows b v → w.rows ≡ v.rows → KeepsClaims v → KeepsClaims w
rows-claims b v w s same h d t =
    let there : Shows b (record v { rows = w.rows }) = subst (λ (rows : List (Key × Content)). Shows b (record v { rows = rows })) (sym same) s in
    before-due b d v s (h b s) w (claims_stay_lem.beside b d (t.records ∙ sym there.records))
    (λ n k e. subst (λ (rows : List (Key × Content)). kept_by (record v { rows = rows }) n ≡ Some k) same e)

pub same-claims : (v w : Objects) → w ≡ v → KeepsClaims v → KeepsClaims w
same-claims v w same h = subst KeepsClaims (sym same) h

pub new-claims : (b c : Board) (v w : Objects) → Shows b v → Shows c w → ClaimsKeep b c → KeptOrNew v w → KeepsClaims v → KeepsClaims w
new-claims b c v w s t keep kept h = all-claims c w t (new-due b c v s (h b s) w keep (claims-new v w kept))

pub step-claims : (b c : Board) (v w : Objects) → Shows b v → Shows c w → ClaimsKeep b c → ClaimsBefore v w → KeepsClaims v → KeepsClaims w
step-claims b c v w s t keep kept h = all-claims c w t (before-due b c v s (h b s) w keep kept)

-- the beginning
pub opening-claims : (w : Objects) → Shows opening_board w → NoneKept w → KeepsClaims w
opening-claims w s none = all-claims opening_board w s (opening-due w none)

-- objects made and removed by command, and values written

pub change-claims : (b : Board) (change : Change) (v w : Objects) → SoundDevices b → Shows b v → Shows (changed b change) w → KeptBefore v w
    → KeepsClaims v → KeepsClaims w
change-claims b change v w devices s t kept = step-claims b (changed b change) v w s t (claims_stay_lem.change b change devices) (claims-before v w kept)

attempted-keep : (b : Board) (driver id : List ℕ) → ClaimsKeep b (attempted_as b driver id)
attempted-keep b driver id = by (barred_by b driver id) (type_named driver)
  where
    by : (bar : Option Code) (row : Option TypeInfo)
        → ClaimsKeep b (elim bar as (λ o. Board) [ Some code ↦ b | None ↦ option_map_or (λ (row : TypeInfo). with_attempt b row.id) row b ])
    by (Some code) row = none-keep b
    by None None = none-keep b
    by None (Some row) = claims_stay_lem.beside b (with_attempt b row.id) refl

pub add-claims : (b : Board) (driver id : List ℕ) (props : List Given) (result : Result (Unit {0}) Refusal) (v w : Objects) → SoundDevices b
    → Shows b v → properties.Adds b driver id props result w → KeptOrNew v w → KeepsClaims v → KeepsClaims w
add-claims b driver id props (Ok u) v w devices s h =
    new-claims b (object_add b driver id props).board v w s h.1 (claims_stay_lem.change b (added driver id props) devices)
add-claims b driver id props (Err (object.Refused code)) v w devices s h =
    new-claims b (object_add b driver id props).board v w s h.1 (claims_stay_lem.change b (added driver id props) devices)
add-claims b driver id props (Err object.Memory) v w devices s (inl shows) = new-claims b b v w s shows (none-keep b)
add-claims b driver id props (Err object.Memory) v w devices s (inr shows) =
    new-claims b (attempted_as b driver id) v w s shows (attempted-keep b driver id)

write-keep : (b d : Board) (path name : List ℕ) (val : Val) → write_at b path name val ≡ Ok d → SoundDevices b → ClaimsKeep b d
write-keep b d path name val is devices =
    write_at-cases (ClaimsKeep b d) b d
    (λ n name v q. subst (ClaimsKeep b) (ap (after_write b) q) (claims_stay_lem.change b (wrote n name v) devices))
    (λ c period fits q. claims_stay_lem.set b d c period q devices)
    (λ c mul fits q. claims_stay_lem.scaled b d c mul (div_of b c) q devices)
    (λ c div fits q. claims_stay_lem.scaled b d c (mul_of b c) div q devices)
    path name val is

pub write-claims : (b : Board) (path name : List ℕ) (val : Val) (result : Result (Unit {0}) Refusal) (v w : Objects) → SoundDevices b → Shows b v
    → writes.Writes w result (write_at b path name val) → OnErr result (w ≡ v) → ClaimsBefore v w → KeepsClaims v → KeepsClaims w
write-claims b path name val (Ok u) v w devices s (c, is, t) same kept h = step-claims b c v w s t (write-keep b c path name val is devices) kept h
write-claims b path name val (Err e) v w devices s told same kept h = same-claims v w same h

-- a device is added, or not

pub plug-claims : (b : Board) (a : Wanted) (x : Added) (asked : Asked) (v w : Objects) → SoundDevices b → SoundBackends b → Shows b v → IsAdded b a x asked w
    → ClaimsOrNewBut x.birth v w → KeepsClaims v → KeepsClaims w
plug-claims b a x asked v w devices backends s came kept h =
    all-claims (plug b a).board w came.shown
    (added-due b (plug b a).board v s (h b s) a x w (claims_stay_lem.added b a devices backends came.refusal) came.birth (is-taken b a came.refusal) came.kept
    kept)

pub late-claims : (b : Board) (a : Wanted) (stage : ℕ) (code : Code) (v w : Objects) → Shows b v → IsRefused b a stage code w → KeptOrNew v w → KeepsClaims v
    → KeepsClaims w
late-claims b a stage code v w s refused =
    new-claims b (plug b a).board v w s refused.shown (claims_stay_lem.refused b a (stage, code) refused.refusal)

pub barred-claims : (T : Type 0) (b : Board) (a : Wanted) (e : AddRefusal) (v w : Objects) → Shows b v
    → IfRefused {T = T} (Err e) (λ stage code. IsRefused b a stage code w) → (e ≡ Memory → IsCut b a w) → KeptOrNew v w → KeepsClaims v → KeepsClaims w
barred-claims T b a (Refused stage code) v w s refused cut =
    late-claims b a stage code v w s refused
barred-claims T b a Memory v w s refused cut = by (cut refl)
  where
    Keeps : Type 0
    Keeps = KeptOrNew v w → KeepsClaims v → KeepsClaims w

    short : (t : TypeId) → CutShort b t w → Keeps
    short t (inl shows) = new-claims b b v w s shows (none-keep b)
    short t (inr (i, joined, low, high, shows)) = new-claims b (cut_attempt b t i joined) v w s shows (claims_stay_lem.beside b (cut_attempt b t i joined) refl)

    by : IsCut b a w → Keeps
    by (inl shows) = new-claims b b v w s shows (none-keep b)
    by (inr (t, named, unbarred, early, short_of)) = short t short_of

pub given_up-claims : (b : Board) (t : TypeId) (bus : ℕ) (v w : Objects) → Shows b v → Shows (plug_attempt b t bus 4) w → KeptOrNew v w → KeepsClaims v
    → KeepsClaims w
given_up-claims b t bus v w s shows = new-claims b (plug_attempt b t bus 4) v w s shows (claims_stay_lem.beside b (plug_attempt b t bus 4) refl)

-- holds, and a reset

pub pulse-claims : (b : Board) (n : ℕ) (kind : ResetKind) (v w : Objects) → SoundDevices b → Shows b v → Shows (pulse b n kind) w → KeptBefore v w
    → KeepsClaims v → KeepsClaims w
pulse-claims b n kind v w devices s t kept =
    step-claims b (pulse b n kind) v w s t (claims_stay_lem.pulsed b n kind devices) (claims-before v w kept)

-- the guest writes to a register

set-keep : (b : Board) (d reg value : ℕ) (registers : Registers) (e : Effect) → registers_written b d reg value ≡ Some (registers, e) → SoundDevices b
    → ClaimsKeep b (registers_set b d registers)
set-keep b d reg value registers e is devices = by (record_of b d) refl
  where
    written : Option Record → Option (Registers × Effect)
    written o = body_write (option_map_or (λ (r : Record). r.registers) o bare) reg value (is_some (claimed_ring b d)) b.now (device_period b d)

    by : (o : Option Record) → record_of b d ≡ o → ClaimsKeep b (registers_set b d registers)
    by None p = absurd (let clash : None ≡ Some (registers, e) = subst (λ (o : Option Record). written o ≡ Some (registers, e)) p is in cc)
    by (Some r) p =
        claims_stay_lem.wrote b d r registers e reg value (is_some (claimed_ring b d)) b.now (device_period b d) p
        (subst (λ (o : Option Record). written o ≡ Some (registers, e)) p is) devices

record KeepsBoth (b c : Board) : Type 0 where
  keep : ClaimsKeep b c
  devices : SoundDevices c

pub guest-keep : (b : Board) (d reg value : ℕ) (c : Board) → guest_written b d reg value ≡ Some c → SoundDevices b → ClaimsKeep b c
guest-keep b d reg value c is devices =
    (written-all (KeepsBoth b) b d reg value
    (λ registers e set. record { keep = set-keep b d reg value registers e set devices; devices = registers_kept_lem.devices b d registers devices })
    (λ x n id h. record {
      keep = keep-then b x (pushed n x id) h.keep (claims_stay_lem.beside x (pushed n x id) refl);
      devices = devices_kept_lem.beside x (pushed n x id) refl refl refl refl refl refl (omega arith) h.devices;
    })
    (λ x m first h. record {
      keep = keep-then b x (pulse x m Cold) h.keep (claims_stay_lem.pulsed x m Cold h.devices);
      devices = devices_kept_lem.pulsed x m Cold h.devices;
    })
    c is).keep
