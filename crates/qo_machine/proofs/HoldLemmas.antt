-- Steps keep holds on what a reset reaches, and no object with more holds on it and above it than may be.
use Rattle.std.proofs.Common.{refl, List}
use Rattle.qo_values.specs.declared.births.TheConstants.{MACHINE_BIRTH}
use Rattle.qo_values.specs.declared.kinds.ResetKind.TheVariants.{Cold, Wakeup}
use Rattle.qo_commands.specs.Commands.{without_events}
use Rattle.qo_model.specs.Clocks.{div_of, mul_of}
use Rattle.qo_realize.specs.Guest.{polled}
use Rattle.qo_realize.specs.Registers.{pushed}
use Rattle.qo_realize.specs.Time.{at_time, with_running}
use Rattle.qo_realize.proofs.RegisterWriteLemmas.{written-all}
use Rattle.qo_sound_bounds.specs.SoundHolds.{SoundHolds}
use Rattle.qo_sound_bounds.proofs.HoldsLemmas.{holds_kept_lem}
use Rattle.qo_sound_phases.specs.PhaseRuns.{SoundResets}
use Rattle.qo_sound_phases.proofs.LawLemmas.{phases_say_lem}
use Rattle.qo_sound_devices.specs.SoundLists.{IsOn}
use Rattle.qo_sound_devices.proofs.DevicesLawLemmas.{removal-all}
use Rattle.qo_machine.specs.Laws.{KeptInRuns, PhasesInRuns, SoundHeld}
use Rattle.qo_machine.specs.Machine.{opening}
use Rattle.qo_machine.specs.Runs.{Turn, state_after}
use Rattle.qo_machine.proofs.PreservationLemmas.{KeepsBoard, KeepsCommands, keeps_commands, run_keeps, step_keeps}
use Rattle.qo_machine.proofs.PhaseLemmas.{may-so, opening_resets, phases_commands, phases_free, phases_kept}

held_kept : KeepsBoard SoundHeld
held_kept =
    record {
      change = λ b change h. (phases_kept.change b change h.0, holds_kept_lem.change b change h.0.devices h.1);
      set = λ b d c period fits is h. (phases_kept.set b d c period fits is h.0, holds_kept_lem.set b d c period is h.0.devices h.1);
      multiplied = λ b d c mul fits is h.
          (phases_kept.multiplied b d c mul fits is h.0, holds_kept_lem.scaled b d c mul (div_of b c) is h.0.devices h.1);
      divided = λ b d c div fits is h.
          (phases_kept.divided b d c div fits is h.0, holds_kept_lem.scaled b d c (mul_of b c) div is h.0.devices h.1);
      attempt = λ b t h. (phases_kept.attempt b t h.0, holds_kept_lem.attempt b t h.1);
      plugged = λ b a h. (phases_kept.plugged b a h.0, holds_kept_lem.plugged b a h.0.devices h.1);
      cut = λ b t i joined h. (phases_kept.cut b t i joined h.0, holds_kept_lem.cut b t i joined h.1);
      asked = λ b id h. (phases_kept.asked b id h.0, holds_kept_lem.asked_for b id h.1);
      completed = λ b at d is pending h. (
        phases_kept.completed b at d is pending h.0,
        holds_kept_lem.detached b d h.0.devices (removal-all (IsOn b) b.pending h.0.devices.lists.pending d pending).0 h.1,
      );
      refused = λ b d h. (phases_kept.refused b d h.0, holds_kept_lem.refused_by b d h.1);
      polled = λ b h. (phases_kept.polled b h.0, holds_kept_lem.beside b (polled b) refl refl h.1);
      written = λ b d reg value c there is h. (
        phases_kept.written b d reg value c there is h.0,
        written-all SoundHolds b d reg value (λ registers e so. holds_kept_lem.registers b d registers h.1)
            (λ x n id q. holds_kept_lem.beside x (pushed n x id) refl refl q) (λ x m on q. holds_kept_lem.pulsed x m Cold q) c is,
      );
      rings =
          record {
            added = λ b id kind size free h. (phases_kept.rings.added b id kind size free h.0, holds_kept_lem.beside b _ refl refl h.1);
            removed = λ b id free h. (phases_kept.rings.removed b id free h.0, holds_kept_lem.beside b _ refl refl h.1);
            read = λ b id most h. (phases_kept.rings.read b id most h.0, holds_kept_lem.beside b _ refl refl h.1);
            written = λ b id bytes h. (phases_kept.rings.written b id bytes h.0, holds_kept_lem.beside b _ refl refl h.1);
          };
      timed = λ b now on low h. (phases_kept.timed b now on low h.0, holds_kept_lem.beside b (at_time now b) refl refl h.1);
      switched = λ b on h. (phases_kept.switched b on h.0, holds_kept_lem.beside b (with_running on b) refl refl h.1);
      held_so = λ b n kind is home deep h. (
        phases_kept.held_so b n kind is home deep h.0,
        holds_kept_lem.held_so b n kind (holds_kept_lem.reached b h.0.devices h.0.phases.lone n (may-so b n is home)) deep h.1,
      );
      released_so = λ b n is held h. (phases_kept.released_so b n is held h.0, holds_kept_lem.released_so b n h.1);
      reset = λ b h. (phases_kept.reset b h.0, holds_kept_lem.reset b h.0.devices h.1);
      wakes = λ b h. (phases_kept.wakes b h.0, holds_kept_lem.pulsed b MACHINE_BIRTH Wakeup h.1);
    }

held_commands : KeepsCommands SoundHeld
held_commands = keeps_commands SoundHeld held_kept (λ b h. (phases_free b h.0, holds_kept_lem.beside b (without_events b) refl refl h.1))

few_in_runs : KeptInRuns SoundHeld
few_in_runs =
    record {
      step = λ s i cs h. step_keeps SoundHeld held_commands s i cs h;
      run = λ turns. run_keeps SoundHeld held_commands opening turns (opening_resets, holds_kept_lem.opening);
    }

-- over every run
pub phases_in_runs : PhasesInRuns
phases_in_runs =
    record {
      kept = record { step = λ s i cs h. step_keeps SoundResets phases_commands s i cs h; run = run };
      few = few_in_runs;
      in_turn = λ turns n. phases_say_lem.in_turn (state_after opening turns).board (run turns).phases n;
      in_reset = λ turns n may. phases_say_lem.in_reset (state_after opening turns).board (run turns).devices (run turns).phases n may;
    }
  where
    run : (turns : List Turn) → SoundResets (state_after opening turns).board
    run turns = run_keeps SoundResets phases_commands opening turns opening_resets
