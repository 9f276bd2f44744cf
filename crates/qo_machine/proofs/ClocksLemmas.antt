-- Steps keep devices in their places with the lists that name them, clocks with their numbers, and no timer ahead of the time.
use Rattle.qo_values.specs.declared.births.TheConstants.{MACHINE_BIRTH}
use Rattle.qo_values.specs.declared.kinds.ResetKind.TheVariants.{Cold, Wakeup}
use Rattle.qo_commands.specs.Commands.{without_events}
use Rattle.qo_model.specs.Board.{Board}
use Rattle.qo_model.specs.Clocks.{div_of, mul_of}
use Rattle.qo_realize.specs.Registers.{pushed}
use Rattle.qo_realize.proofs.RegisterWriteLemmas.{written-all}
use Rattle.qo_realize.proofs.SoundRunLemmas.{added-run, asked-run, attempt-run, changed-run, cleared-run, completed-run, cut-run, held-run, polled-run, pulsed-run, refused-run, registers-run, released-run, reset-run, ringed-run, scaled-run, set-run, switched-run, timed-run}
use Rattle.qo_sound_clocks.specs.ClockRuns.{SoundRun}
use Rattle.qo_machine.proofs.PreservationLemmas.{any-rings, KeepsBoard, KeepsCommands, keeps_commands}

-- changes and attempts keep them
run_kept : KeepsBoard SoundRun
run_kept =
    record {
      change = λ b change h. changed-run b change h;
      set = λ b d c period fits is h. set-run b d c period fits is h;
      multiplied = λ b d c mul fits is h. scaled-run b d c mul (div_of b c) fits (h.numbers c).div is h;
      divided = λ b d c div fits is h. scaled-run b d c (mul_of b c) div (h.numbers c).mul fits is h;
      attempt = λ b t h. attempt-run b t h;
      plugged = λ b a h. added-run b a h;
      cut = λ b t i joined h. cut-run b t i joined h;
      asked = λ b id h. asked-run b id h;
      completed = λ b at d is pending h. completed-run b d pending h;
      refused = λ b d h. refused-run b d h;
      polled = λ b h. polled-run b h;
      written = λ b d reg value c there is h.
          written-all SoundRun b d reg value (λ registers e so. registers-run b d reg value registers e so h)
          (λ x n id q. ringed-run x (pushed n x id).rings q) (λ x m on q. pulsed-run x m Cold q) c is;
      rings = any-rings SoundRun (λ b rings h. ringed-run b rings h);
      timed = λ b now on low h. timed-run b now on h;
      switched = λ b on h. switched-run b on h;
      held_so = λ b n kind is home deep h. held-run b n kind h;
      released_so = λ b n is held h. released-run b n h;
      reset = λ b h. reset-run b h;
      wakes = λ b h. pulsed-run b MACHINE_BIRTH Wakeup h;
    }

-- events are no matter to them
run_free : (b : Board) → SoundRun b → SoundRun (without_events b)
run_free b h = cleared-run b h

pub run_commands : KeepsCommands SoundRun
run_commands = keeps_commands SoundRun run_kept run_free
