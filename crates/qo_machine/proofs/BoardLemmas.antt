-- Steps keep the whole of what a sound board is.
use Rattle.qo_values.specs.declared.births.TheConstants.{MACHINE_BIRTH}
use Rattle.qo_values.specs.declared.kinds.ResetKind.TheVariants.{Wakeup}
use Rattle.qo_commands.specs.Commands.{without_events}
use Rattle.qo_model.specs.Board.{Board}
use Rattle.qo_model.specs.Clocks.{div_of, mul_of}
use Rattle.qo_realize.specs.SoundBoard.{SoundBoard}
use Rattle.qo_realize.proofs.GoodBoardLemmas.{added-good, asked-good, attempt-good, changed-good, cleared-good, completed-good, cut-good, held-good, polled-good, pulsed-good, refused-good, released-good, reset-good, ringed-good, scaled-good, set-good, switched-good, timed-good, written-good}
use Rattle.qo_realize.proofs.RingLemmas.{added_backends, gained_backends, read_backends, removed_backends}
use Rattle.qo_machine.proofs.PreservationLemmas.{KeepsBoard, KeepsCommands, keeps_commands}

-- changes and attempts keep it
board_kept : KeepsBoard SoundBoard
board_kept =
    record {
      change = λ b change h. changed-good b change h;
      set = λ b d c period fits is h. set-good b d c period fits is h;
      multiplied = λ b d c mul fits is h. scaled-good b d c mul (div_of b c) fits (h.run.numbers c).div is h;
      divided = λ b d c div fits is h. scaled-good b d c (mul_of b c) div (h.run.numbers c).mul fits is h;
      attempt = λ b t h. attempt-good b t h;
      plugged = λ b a h. added-good b a h;
      cut = λ b t i joined h. cut-good b t i joined h;
      asked = λ b id h. asked-good b id h;
      completed = λ b at d is pending h. completed-good b d pending h;
      refused = λ b d h. refused-good b d h;
      polled = λ b h. polled-good b h;
      written = λ b d reg value c there is h. written-good b d reg value c is h;
      rings =
          record {
            added = λ b id kind size free h. ringed-good b _ (added_backends b id kind size free h.backends) h;
            removed = λ b id free h. ringed-good b _ (removed_backends b id free h.backends) h;
            read = λ b id most h. ringed-good b _ (read_backends b id most h.backends) h;
            written = λ b id bytes h. ringed-good b _ (gained_backends b id bytes h.backends) h;
          };
      timed = λ b now on low h. timed-good b now on low h;
      switched = λ b on h. switched-good b on h;
      held_so = λ b n kind is home deep h. held-good b n kind is home deep h;
      released_so = λ b n is held h. released-good b n h;
      reset = λ b h. reset-good b h;
      wakes = λ b h. pulsed-good b MACHINE_BIRTH Wakeup h;
    }

-- events are no matter to it
pub board_free : (b : Board) → SoundBoard b → SoundBoard (without_events b)
board_free b h = cleared-good b h

pub board_commands : KeepsCommands SoundBoard
board_commands = keeps_commands SoundBoard board_kept board_free
