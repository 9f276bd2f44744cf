-- What holds of a machine between two inputs.
use Rattle.std.specs.Prelude.{◌≡◌, []}
use Rattle.qo_commands.specs.Interrupts.{HasLines}
use Rattle.qo_model.specs.Board.{Board}
use Rattle.qo_model.specs.SoundEvents.{SoundEvents}
use Rattle.qo_realize.specs.SoundBoard.{SoundBoard}
use Rattle.qo_machine.specs.Machine.{Seen}

-- the board that it stands at is sound, and no event waits on it
pub record IsSoundBetween (b : Board) : Type 0 where
  pub board : SoundBoard b
  pub events : SoundEvents b

-- no event waits, as it is seen of a machine
abbrev pub IsSettled : Seen → Type 0
IsSettled m = m.board.objects.events.list ≡ []

-- the interrupt lines are those of the board
abbrev pub IsWired : Seen → Type 0
IsWired m = HasLines m.board m.lines
