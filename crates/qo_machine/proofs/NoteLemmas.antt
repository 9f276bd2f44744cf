-- Final notes over runs.
use Rattle.std.proofs.Common.{◌≡◌, ℕ, zero, suc, true, refl, length, codes, Option, Some, None, slice_get}
use Rattle.qo_values.specs.declared.births.TheConstants.{MACHINE_BIRTH, ROOT_BIRTH}
use Rattle.qo_values.specs.declared.kinds.ResetKind.TheVariants.{Cold, Wakeup}
use Rattle.qo_model.specs.Board.{Board, Removal, is_live}
use Rattle.qo_model.specs.Clocks.{div_of, mul_of}
use Rattle.qo_model.specs.FinalNotes.{NotesInOrder}
use Rattle.qo_model.proofs.FinalNotesGrowthLemmas.{attempt-grows, grown-keeps}
use Rattle.qo_model.proofs.FinalNotesRunsLemmas.{final_once_lem, once, opening_notes}
use Rattle.qo_model.specs.Hotplug.{all_completed, completed, reset_whole}
use Rattle.qo_realize.specs.Chardevs.{with_rings}
use Rattle.qo_realize.specs.Guest.{polled}
use Rattle.qo_realize.specs.Registers.{pushed}
use Rattle.qo_realize.specs.Time.{at_time, with_running}
use Rattle.qo_realize.proofs.RegisterWriteLemmas.{written-all}
use Rattle.qo_sound.proofs.NotesKeptLemmas.{notes_kept_lem}
use Rattle.qo_sound.proofs.ViewLemmas.{rest-from_sound}
use Rattle.qo_sound_devices.specs.SoundDevices.{SoundDevices}
use Rattle.qo_sound_devices.specs.SoundLists.{IsOn}
use Rattle.qo_sound_devices.proofs.DevicesLawLemmas.{devices_kept_lem}
use Rattle.qo_sound_devices.proofs.PlacesLemmas.{child-live, of-live, stands-live}
use Rattle.qo_sound_devices.proofs.ResetLemmas.{first-on}
use Rattle.qo_sound_clocks.proofs.WriteLawLemmas.{writes_keep_lem}
use Rattle.qo_sound_clocks.proofs.RegisterLemmas.{registers_kept_lem}
use Rattle.qo_machine.proofs.AddressLemmas.{address-there, bus-live}
use Rattle.qo_machine.proofs.PreservationLemmas.{any-rings, KeepsBoard, KeepsCommands, keeps_commands, run_keeps}
use Rattle.qo_machine.proofs.DevicesLemmas.{devices_free, devices_kept, ringed-devices}
use Rattle.qo_machine.specs.Laws.{FinalOnceInRuns}
use Rattle.qo_machine.specs.Machine.{opening}
use Rattle.qo_machine.specs.Runs.{state_after}

-- on a board whose devices are sound
abbrev Ordered : Board → Type 0
Ordered b = SoundDevices b × NotesInOrder b

-- the removals that are pending come to their end
completed-ordered : (times : ℕ) (b : Board) → Ordered b → Ordered (all_completed times b)
completed-ordered zero b o = o
completed-ordered (suc times) b o = go (slice_get b.pending 0) refl (completed-ordered times)
  where
    ended : (d : ℕ) → IsOn b d → Ordered (completed b d)
    ended d on = (
      devices_kept_lem.detached b d o.0 on.0,
      notes_kept_lem.detached b d o.0.tree (stands-live b (rest-from_sound b o.0.tree).used.firm d on.0) o.1,
    )

    go : (x : Option Removal) → slice_get b.pending 0 ≡ x → ((c : Board) → Ordered c → Ordered (all_completed times c))
        → Ordered (all_completed (suc times) b)
    go None e rest = rw (all_completed, e) o
    go (Some r) e rest = rw (all_completed, e) (rest (completed b r.birth) (ended r.birth (first-on (IsOn b) b.pending o.0.lists.pending r e)))

-- the machine is there
machine-live : (b : Board) → SoundDevices b → is_live b MACHINE_BIRTH ≡ true
machine-live b h = child-live b (rest-from_sound b h.tree).used.firm ROOT_BIRTH MACHINE_BIRTH h.places.1.machine

reset-notes : (b : Board) → Ordered b → NotesInOrder (reset_whole b)
unfolding reset_whole
reset-notes b o =
    let c : Board = all_completed (length b.pending) b in
    let p : Ordered c = completed-ordered (length b.pending) b o in
    notes_kept_lem.pulsed c MACHINE_BIRTH Cold p.0.tree (machine-live c p.0) p.1

-- notes stay in order
notes_kept : KeepsBoard Ordered
notes_kept =
    record {
      change = λ b change o. (devices_kept.change b change o.0, final_once_lem.step b change o.1);
      set = λ b d c period fits is o. (devices_kept.set b d c period fits is o.0, writes_keep_lem.set_notes b d c period is o.1);
      multiplied = λ b d c mul fits is o. (devices_kept.multiplied b d c mul fits is o.0, writes_keep_lem.scaled_notes b d c mul (div_of b c) is o.1);
      divided = λ b d c div fits is o. (devices_kept.divided b d c div fits is o.0, writes_keep_lem.scaled_notes b d c (mul_of b c) div is o.1);
      attempt = λ b t o. (devices_kept.attempt b t o.0, grown-keeps b _ t true (attempt-grows b t o.1) o.1);
      plugged = λ b a o. (devices_kept.plugged b a o.0, notes_kept_lem.plugged b a o.0.tree o.1);
      cut = λ b t i joined o. (devices_kept.cut b t i joined o.0, notes_kept_lem.cut b t i joined o.1);
      asked = λ b id o. (devices_kept.asked b id o.0, notes_kept_lem.asked_for b id o.1);
      completed =
          λ b at d is pending o. (devices_kept.completed b at d is pending o.0, notes_kept_lem.detached b d o.0.tree (address-there b o.0.tree at d is) o.1);
      refused = λ b d o. (devices_kept.refused b d o.0, notes_kept_lem.refused_by b d o.1);
      polled = λ b o. (devices_kept.polled b o.0, notes_kept_lem.beside b (polled b) refl refl refl o.1);
      written = λ b d reg value c there is o.
          written-all Ordered b d reg value
          (λ registers e so. (registers_kept_lem.devices b d registers o.0, registers_kept_lem.notes b d registers o.1))
          (λ x n id q. (ringed-devices x (pushed n x id).rings q.0, notes_kept_lem.beside x (pushed n x id) refl refl refl q.1))
          (λ x m on q. (devices_kept_lem.pulsed x m Cold q.0, notes_kept_lem.pulsed x m Cold q.0.tree (bus-live x d m on) q.1)) c is;
      rings = any-rings Ordered (λ b rings o. (ringed-devices b rings o.0, notes_kept_lem.beside b (with_rings rings b) refl refl refl o.1));
      timed = λ b now on low o. (devices_kept.timed b now on low o.0, notes_kept_lem.beside b (at_time now b) refl refl refl o.1);
      switched = λ b on o. (devices_kept.switched b on o.0, notes_kept_lem.beside b (with_running on b) refl refl refl o.1);
      held_so =
          λ b n kind is home deep o. (
            devices_kept.held_so b n kind is home deep o.0,
            notes_kept_lem.held_so b n kind o.0.tree (of-live b (codes "resettable") n is) o.1,
          );
      released_so =
          λ b n is held o. (devices_kept.released_so b n is held o.0, notes_kept_lem.released_so b n o.0.tree (of-live b (codes "resettable") n is) o.1);
      reset = λ b o. (devices_kept.reset b o.0, reset-notes b o);
      wakes = λ b o. (devices_kept.wakes b o.0, notes_kept_lem.pulsed b MACHINE_BIRTH Wakeup o.0.tree (machine-live b o.0) o.1);
    }

-- events are no matter to them
commands_kept : KeepsCommands Ordered
commands_kept =
    keeps_commands Ordered notes_kept
    (λ b o. (devices_free b o.0, record { opened = o.1.opened; counted = o.1.counted; unborn = o.1.unborn; living = o.1.living; gone = o.1.gone }))

pub final_once_in_runs : FinalOnceInRuns
final_once_in_runs turns =
    let kept = run_keeps Ordered commands_kept opening turns (devices_kept_lem.opening, opening_notes) in
    (kept.1, λ n. once (state_after opening turns).board kept.1 n)
