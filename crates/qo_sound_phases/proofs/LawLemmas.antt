-- The laws: what keeps phases sound, and what that says.
use Rattle.std.proofs.Common.{◌≡◌, refl, ap, sym, subst, ◌∙◌, ◌<◌, ◌==◌, not, option_map, rules, ℕ, zero, suc, Bool, true, false, ◌||◌, List, length, Option, Some, None, is_some, arith, codes, ◌⊎◌, inl, inr, slice_get}
use Rattle.qo_model.proofs.Common.{AllByRecursion, if◌then◌else◌, option_map_or, Registers, MACHINE_BIRTH, Act, TypeId, Machine, Board, Record, kind_of, record_of, acted, all_completed, asked, asked_of, completed, device_at, refused, reset_whole, with_attempt, opening_board, attached, is_of, notice_barred, is_a, types}
use Rattle.qo_model.specs.declared.notes.Deed.TheVariants.{Did}
use Rattle.std.proofs.lemmas.Bool.{and_parts, eqb-true}
use Rattle.std.proofs.lemmas.Option.{same_Some}
use Rattle.qo_model.specs.Board.{Removal}
use Rattle.qo_model.specs.Hotplug.{is_early}
use Rattle.qo_model.proofs.StepLemmas.{found-birth}
use Rattle.qo_sound.proofs.SearchLemmas.{all-found}
use Rattle.qo_values.proofs.ListLemmas.{all-imply}
use Rattle.qo_values.proofs.EachLemmas.{each}
use Rattle.qo_sound.proofs.TestLemmas.{decide, clash-back}
use Rattle.qo_sound.proofs.ViewLemmas.{PinsRootAlone, rest-from_sound}
use Rattle.qo_sound_devices.specs.SoundDevices.{SoundDevices}
use Rattle.qo_sound_devices.specs.SoundLists.{IsOn}
use Rattle.qo_sound_devices.specs.SoundPlaces.{machines}
use Rattle.qo_sound_devices.proofs.ResetLemmas.{detached-below, first-on}
use Rattle.qo_sound_devices.proofs.LocationLemmas.{attached-owner, attached-stands}
use Rattle.qo_sound_clocks.specs.RegisterWrites.{registers_set, with_registers}
use Rattle.qo_sound_phases.specs.Phases.{held, out, phase_of, stage_of}
use Rattle.qo_sound_phases.specs.PhasesKept.{may_reset, PhasesKeptLaw}
use Rattle.qo_sound_phases.specs.PhaseFacts.{PhasesSayLaw}
use Rattle.qo_sound_phases.specs.SoundPhases.{IsReached, LoneMachine, machine, device, bus, SoundPhases}
use Rattle.qo_sound_phases.proofs.AddressLemmas.{addressed-stands, first-may}
use Rattle.qo_sound_phases.proofs.AttemptLemmas.{cut-phases, plug_attempt-phases}
use Rattle.qo_sound_phases.proofs.ResetTreeLemmas.{placed, post-once}
use Rattle.qo_sound_phases.proofs.CommandLemmas.{change-phases}
use Rattle.qo_sound_phases.proofs.DetachmentLemmas.{detach-phases}
use Rattle.qo_sound_phases.proofs.HoldLemmas.{hold-phases, pulse-phases, release-phases}
use Rattle.qo_sound_phases.proofs.PlugLemmas.{plug-phases}
use Rattle.qo_sound_phases.proofs.QuietChangeLemmas.{aside-phases, Quiet, quiet-acted, quiet-aside, quiet-attempt}
use Rattle.qo_sound_phases.proofs.ReachLemmas.{buses-stay, same-stands, shape-reached}
use Rattle.qo_sound_phases.proofs.ShapeLemmas.{SameShape, shape-acted, shape-back, shape-count, shape-edit, shape-records}
use Rattle.qo_sound_phases.proofs.StageLemmas.{turns-some}
use Rattle.qo_sound_phases.proofs.WriteLemmas.{scaled-phases, set-phases}
use Rattle.qo_values.specs.declared.kinds.ResetKind.TheVariants.{Cold, Wakeup}

-- a board of one shape, with the same births, holds and phases
pub shape-phases : (b c : Board) → SameShape b c → c.born ≡ b.born → c.holds ≡ b.holds → Quiet b c → SoundPhases b → SoundPhases c
shape-phases b c shape born holds quiet h =
    record {
      in_turn = λ n. ap is_some (quiet n) ∙ h.in_turn n;
      unborn = λ n high. quiet n ∙ h.unborn n (subst (λ (m : ℕ). m < n) born high);
      reached = λ n i.
          quiet n ∙ h.reached n (shape-reached c b (shape-back b c shape) n i)
          ∙ ap (λ (m : ℕ). Some (if m == 0 then out else held)) (sym (shape-count b c shape holds n));
      holds = subst (AllByRecursion (IsReached c)) (sym holds) (all-imply (IsReached b) (IsReached c) (shape-reached b c shape) b.holds h.holds);
      buses = buses-stay b c (shape-reached b c shape) h.buses;
      lone = λ n e. h.lone n (sym (shape.kind n) ∙ e);
    }

beside-phases : (b c : Board) → c.records ≡ b.records → c.born ≡ b.born → c.holds ≡ b.holds → c.notes ≡ b.notes → SoundPhases b → SoundPhases c
beside-phases b c records born holds notes h = shape-phases b c (shape-records b c records) born holds (λ n. ap (stage_of n) notes) h

acted-phases : (act : Act) (n period : ℕ) (b : Board) → phase_of (Did act) ≡ None → SoundPhases b → SoundPhases (acted act n period b)
unfolding acted
acted-phases act n period b none h = shape-phases b (acted act n period b) (shape-acted act n period b) refl refl (quiet-acted act n period none b) h

asked-phases : (b : Board) (id : List ℕ) → SoundPhases b → SoundPhases (asked b id).board
asked-phases b id h = go (device_at b id) refl
  where
    of : (d : ℕ) → SoundPhases (asked_of b d).board
    of d =
        decide (attached b d)
        (λ e. decide (is_early b d) (λ f. rw (asked_of, e, f) h)
        (λ f. decide (is_some (notice_barred b)) (λ g. rw (asked_of, e, f, g) h) (λ g. rw (asked_of, e, f, g) (beside-phases b _ refl refl refl refl h))))
        (λ e. rw (asked_of, e) h)

    go : (o : Option ℕ) → device_at b id ≡ o → SoundPhases (asked b id).board
    go None e = rw (asked, e) h
    go (Some d) e = rw (asked, e) (of d)

-- no phase, no hold, and one machine
abbrev pub is_machine : TypeId → Bool
is_machine Machine = true
is_machine t = false

abbrev fits_lone : Record → Bool
fits_lone r = not (is_machine r.kind) || r.birth == MACHINE_BIRTH

all-lone : AllByRecursion (λ (r : Record). fits_lone r ≡ true) opening_board.records
unfolding opening_board types
all-lone = search rules

opening-lone : LoneMachine opening_board
opening-lone n e = go (record_of opening_board n) refl e
  where
    fits : (r : Record) → r.kind ≡ Machine → fits_lone r ≡ true → r.birth ≡ MACHINE_BIRTH
    fits r k f = eqb-true r.birth MACHINE_BIRTH (let its : is_machine r.kind ≡ true = ap is_machine k in rw its at f)

    go : (o : Option Record) → record_of opening_board n ≡ o → option_map (λ (r : Record). r.kind) o ≡ Some Machine → n ≡ MACHINE_BIRTH
    go None q k = absurd (let bad : None ≡ Some Machine = k in cc)
    go (Some r) q k =
        sym (found-birth n opening_board.records r q)
        ∙ fits r (same_Some r.kind Machine k) (all-found (λ (x : Record). fits_lone x ≡ true) n opening_board.records all-lone r q)

opening-phases : SoundPhases opening_board
unfolding opening_board types
opening-phases =
    record {
      in_turn = λ n. refl;
      unborn = λ n high. refl;
      reached = λ n i. refl;
      holds = tt;
      buses = (bus refl (machines refl), (bus refl (machines refl), tt));
      lone = opening-lone;
    }

-- what may be held in reset is what a reset reaches
abbrev Resettable : TypeId → Type 0
Resettable t = is_a t (codes "resettable") ≡ true → (t ≡ Machine) ⊎ ((is_a t (codes "device") ≡ true) ⊎ (is_a t (codes "bus") ≡ true))

resettable-cases : (t : TypeId) → Resettable t
unfolding types
resettable-cases = each Resettable (search rules)

pub may-reached : (b : Board) → SoundDevices b → LoneMachine b → (n : ℕ) → may_reset b n ≡ true → IsReached b n
may-reached b d lone n e = go (kind_of b n) refl both.1
  where
    both : (attached b n ≡ true) × (is_of b (codes "resettable") n ≡ true)
    both = and_parts (attached b n) (is_of b (codes "resettable") n) e

    rest : PinsRootAlone b
    rest = rest-from_sound b d.tree

    is : (t : TypeId) → kind_of b n ≡ Some t → (name : List ℕ) → is_a t name ≡ true → is_of b name n ≡ true
    is t q name k = ap (λ (o : Option TypeId). option_map_or (λ (u : TypeId). is_a u name) o false) q ∙ k

    go : (o : Option TypeId) → kind_of b n ≡ o → option_map_or (λ (t : TypeId). is_a t (codes "resettable")) o false ≡ true → IsReached b n
    go None q k = clash-back k
    go (Some t) q k =
        by (resettable-cases t k)
      where
        by : (t ≡ Machine) ⊎ ((is_a t (codes "device") ≡ true) ⊎ (is_a t (codes "bus") ≡ true)) → IsReached b n
        by (inl m) = machine (lone n (q ∙ ap Some m))
        by (inr (inl v)) = device (attached-stands b d.tree.0 rest.used.firm d.places.0 None (λ x. false) d.places.1 n (is t q (codes "device") v) both.0)
        by (inr (inr v)) =
            bus (is t q (codes "bus") v) (attached-owner b d.tree.0 rest.used.firm d.places.0 None (λ x. false) d.places.1 n (is t q (codes "bus") v) both.0)

-- the removals that are pending come to their end, and the machine is reset
completed-phases : (times : ℕ) (b : Board) → SoundDevices b → SoundPhases b → SoundDevices (all_completed times b) × SoundPhases (all_completed times b)
completed-phases zero b d h = (d, h)
completed-phases (suc times) b d h = go (slice_get b.pending 0) refl (completed-phases times)
  where
    go : (o : Option Removal) → slice_get b.pending 0 ≡ o
        → ((c : Board) → SoundDevices c → SoundPhases c → SoundDevices (all_completed times c) × SoundPhases (all_completed times c))
        → SoundDevices (all_completed (suc times) b) × SoundPhases (all_completed (suc times) b)
    go None e rest = rw (all_completed, e) (d, h)
    go (Some n) e rest =
        let on : IsOn b n.birth = first-on (IsOn b) b.pending d.lists.pending n e in
        rw (all_completed, e) (rest (completed b n.birth) (detached-below b n.birth d on.0) (detach-phases b n.birth d on.0 h))

reset-phases : (b : Board) → SoundDevices b → SoundPhases b → SoundPhases (reset_whole b)
unfolding reset_whole
reset-phases b d h =
    let k : SoundDevices (all_completed (length b.pending) b) × SoundPhases (all_completed (length b.pending) b) =
    completed-phases (length b.pending) b d h in
    pulse-phases (all_completed (length b.pending) b) MACHINE_BIRTH Cold k.0 (machine refl) k.1

-- registers are in no slot
shape-registers : (b : Board) (n : ℕ) (registers : Registers) → SameShape b (registers_set b n registers)
shape-registers b n registers = shape-edit n (with_registers registers) (λ r. refl) (λ r. refl) (λ r. refl) b

pub phases_kept_lem : PhasesKeptLaw
phases_kept_lem =
    record {
      opening = opening-phases;
      beside = beside-phases;
      change = λ b change d h. change-phases b change d h;
      attempt = λ b t d h.
          aside-phases b (with_attempt b t) (placed b d)
          (quiet-aside b (with_attempt b t) (shape-records b (with_attempt b t) refl) refl (omega arith) (quiet-attempt b t) h) h;
      plugged = λ b a d h. plug-phases b a d h;
      given_up = λ b t bus stage its d h. plug_attempt-phases b t bus stage its (placed b d) h;
      cut = λ b t i joined d h. cut-phases b t i joined (placed b d) h;
      asked_for = asked-phases;
      refused_by = λ b d h. beside-phases b (refused b d) refl refl refl refl h;
      detached = λ b d s e h. detach-phases b d s e h;
      acts = acted-phases;
      held_so = λ b n kind e d h. hold-phases b n kind d (may-reached b d h.lone n e) h;
      released_so = λ b n e d h. release-phases b n d e h;
      pulsed = λ b n kind e d h. pulse-phases b n kind d (may-reached b d h.lone n e) h;
      reset = reset-phases;
      wakes = λ b d h. pulse-phases b MACHINE_BIRTH Wakeup d (machine refl) h;
      set = set-phases;
      scaled = scaled-phases;
      registers = λ b n registers h. shape-phases b (registers_set b n registers) (shape-registers b n registers) refl refl (λ x. refl) h;
      stand_with_registers = λ b n registers d e. same-stands b (registers_set b n registers) (shape-registers b n registers) d ∙ e;
    }

pub phases_say_lem : PhasesSayLaw
phases_say_lem =
    record {
      in_turn = λ b h n. turns-some n b.notes (h.in_turn n);
      once = λ b d n. post-once b (placed b d) n;
      in_reset = λ b d h n e. h.reached n (may-reached b d h.lone n e);
      addressed = addressed-stands;
      first_bus = first-may;
    }
