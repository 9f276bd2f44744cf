-- For a law alone. What a line of the guest that is refused comes to: its answer, and nothing else.
use Rattle.std.specs.Prelude.{◌≡◌, ℕ, Bool, true, false, List}
use Rattle.qo_guest.specs.declared.answers.GuestAnswer.{GuestAnswer}
use Rattle.qo_guest.specs.declared.answers.GuestAnswer.TheVariants.{NoAddress, NoDevice, NoLine, NoPending, NoRegister, NoStopped}
use Rattle.qo_model.specs.Board.{Board}
use Rattle.qo_commands.specs.Hearing.{answered, heard}

-- whether an answer refuses the line: it is none, the machine stands still, nothing shows at the hardware address, no device is there, none of it is
-- pending, or it has no such register
abbrev pub is_refusal : GuestAnswer → Bool
is_refusal NoLine = true
is_refusal NoStopped = true
is_refusal NoAddress = true
is_refusal NoDevice = true
is_refusal NoPending = true
is_refusal NoRegister = true
is_refusal answer = false

-- a refused line leaves the board, has no event, and does not end the run
abbrev pub RefusedLinesLaw : Type 0
RefusedLinesLaw = (b : Board) (line : List ℕ) → is_refusal (heard b line).answer ≡ true → heard b line ≡ answered b (heard b line).answer
