-- The law: over every run the phases of each birth are in turn.
use Rattle.std.proofs.Common.{◌≡◌, refl, Bool, true, false, List, [], ◌∷◌, ◌≤◌, arith}
use Rattle.qo_model.proofs.Common.{Board, Notice, opening_board}
use Rattle.qo_model.specs.Board.{is_pending}
use Rattle.qo_sound_devices.specs.DeviceRuns.{DeviceStep, commands, adds, cuts, asks, refuses, lets_go, reads, acts, holds, releases, resets, sends, notice_read, stepped}
use Rattle.qo_sound_devices.specs.SoundLists.{IsOn}
use Rattle.qo_sound_devices.proofs.DevicesLawLemmas.{devices_kept_lem}
use Rattle.qo_sound_devices.proofs.DevicesLawLemmas.{removal-all}
use Rattle.qo_sound_phases.specs.PhaseRuns.{PhaseRunsLaw, PhaseStep, goes, pulses, after_phase_steps, is_made, phase_stepped, SoundResets}
use Rattle.qo_sound_phases.specs.PhasesKept.{may_reset}
use Rattle.qo_sound_phases.proofs.LawLemmas.{phases_kept_lem, phases_say_lem}

-- what changes nothing that either speaks of
beside : (b c : Board) → c.records ≡ b.records → c.born ≡ b.born → c.anonymous ≡ b.anonymous → c.pins ≡ b.pins → c.pending ≡ b.pending
    → c.notices ≡ b.notices → b.now ≤ c.now → c.holds ≡ b.holds → c.notes ≡ b.notes → SoundResets b → SoundResets c
beside b c records born anonymous pins pending notices later on notes h =
    record {
      devices = devices_kept_lem.beside b c records born anonymous pins pending notices later h.devices;
      phases = phases_kept_lem.beside b c records born on notes h.phases;
    }

made-run : (b : Board) (step : DeviceStep) → is_made b step ≡ true → SoundResets b → SoundResets (stepped b step)
made-run b (commands change) e h =
    record { devices = devices_kept_lem.change b change h.devices; phases = phases_kept_lem.change b change h.devices h.phases }
made-run b (adds a) e h = record { devices = devices_kept_lem.plugged b a h.devices; phases = phases_kept_lem.plugged b a h.devices h.phases }
made-run b (cuts t i joined) e h =
    record { devices = devices_kept_lem.cut b t i joined h.devices; phases = phases_kept_lem.cut b t i joined h.devices h.phases }
made-run b (asks id) e h = record { devices = devices_kept_lem.asked_for b id h.devices; phases = phases_kept_lem.asked_for b id h.phases }
made-run b (refuses d) e h = record { devices = devices_kept_lem.refused_by b d h.devices; phases = phases_kept_lem.refused_by b d h.phases }
made-run b (lets_go d) e h = go (is_pending b d) refl
  where
    go : (t : Bool) → is_pending b d ≡ t → SoundResets (stepped b (lets_go d))
    go true q =
        let on : IsOn b d = removal-all (IsOn b) b.pending h.devices.lists.pending d q in
        rw (stepped, q) (record { devices = devices_kept_lem.detached b d h.devices on.0; phases = phases_kept_lem.detached b d h.devices on.0 h.phases })
    go false q = rw (stepped, q) h
made-run b reads e h = go b.notices refl
  where
    go : (xs : List Notice) → b.notices ≡ xs → SoundResets (notice_read b)
    go [] q = rw (notice_read, q) h
    go (notice ∷ others) q =
        rw (notice_read, q)
        (record { devices = devices_kept_lem.read b notice others q h.devices; phases = phases_kept_lem.beside b _ refl refl refl refl h.phases })
made-run b (acts act n period) e h = absurd (let bad : false ≡ true = e in cc)
made-run b (holds n kind) e h = record { devices = devices_kept_lem.held_so b n kind h.devices; phases = phases_kept_lem.held_so b n kind e h.devices h.phases }
made-run b (releases n) e h = record { devices = devices_kept_lem.released_so b n h.devices; phases = phases_kept_lem.released_so b n e h.devices h.phases }
made-run b resets e h = record { devices = devices_kept_lem.reset b h.devices; phases = phases_kept_lem.reset b h.devices h.phases }
made-run b sends e h = beside b (record b { events = [] }) refl refl refl refl refl refl (omega arith) refl refl h

step-run : (b : Board) (step : PhaseStep) → SoundResets b → SoundResets (phase_stepped b step)
step-run b (goes step) h = go (is_made b step) refl
  where
    go : (t : Bool) → is_made b step ≡ t → SoundResets (phase_stepped b (goes step))
    go true e = rw (phase_stepped, e) (made-run b step e h)
    go false e = rw (phase_stepped, e) h
step-run b (pulses n kind) h = go (may_reset b n) refl
  where
    go : (t : Bool) → may_reset b n ≡ t → SoundResets (phase_stepped b (pulses n kind))
    go true e =
        rw (phase_stepped, e) (record { devices = devices_kept_lem.pulsed b n kind h.devices; phases = phases_kept_lem.pulsed b n kind e h.devices h.phases })
    go false e = rw (phase_stepped, e) h

steps-run : (b : Board) (steps : List PhaseStep) → SoundResets b → SoundResets (after_phase_steps b steps)
steps-run b [] h = h
steps-run b (step ∷ steps) h = steps-run (phase_stepped b step) steps (step-run b step h)

opening-run : SoundResets opening_board
opening-run = record { devices = devices_kept_lem.opening; phases = phases_kept_lem.opening }

pub phase_runs_lem : PhaseRunsLaw
phase_runs_lem =
    record {
      step = step-run;
      run = λ steps. steps-run opening_board steps opening-run;
      in_turn = λ steps n. phases_say_lem.in_turn (after_phase_steps opening_board steps) (steps-run opening_board steps opening-run).phases n;
    }
