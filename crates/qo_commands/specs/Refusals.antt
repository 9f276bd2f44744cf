-- For a law alone. What a command that is refused leaves, and one whose attempt was cut for want of memory.
use Rattle.std.specs.Prelude.{◌≡◌, ℕ, Bool, true, false, List, [], Ok, Err, Some}
use Rattle.qo_values.specs.declared.codes.Code.{Code}
use Rattle.qo_model.specs.Board.{Board}
use Rattle.qo_realize.specs.Refusals.{AsItWas}
use Rattle.qo_requests.specs.declared.calls.Call.{Call}
use Rattle.qo_requests.specs.declared.calls.Call.TheVariants as call
use Rattle.qo_requests.specs.declared.calls.Change.{Change}
use Rattle.qo_requests.specs.declared.calls.Change.TheVariants.{Add}
use Rattle.qo_text.specs.Lines.{line_of}
use Rattle.qo_text.specs.declared.lines.Line.TheVariants.{Do}
use Rattle.serde_json.specs.Data.{string}
use Rattle.qo_commands.specs.Changes.{attempted}
use Rattle.qo_commands.specs.Commands.{made, performed, refusal_line, refused_with}

-- `object-add` and `device_add` make objects, and no other command does by itself
abbrev pub makes_objects : Call → Bool
makes_objects (call.Change (Add addition)) = true
makes_objects command = false

-- a command that is refused leaves the board as it was, has no event of its own, and does not end the run
pub record LeftAlone (b : Board) (c : Call) (code : Code) : Type 0 where
  pub board : AsItWas b (performed b c).board
  pub events : (performed b c).events ≡ []
  pub ends : (performed b c).ends ≡ false

pub record RefusedCommandsLaw : Type 0 where
  pub refused : (b : Board) (c : Call) (code : Code) → (performed b c).result ≡ Err code → LeftAlone b c code
  -- where it makes no objects nothing at all is left of it
  pub nothing : (b : Board) (c : Call) (code : Code) → (performed b c).result ≡ Err code → makes_objects c ≡ false → performed b c ≡ refused_with b code
  -- a line of the monitor that is told of as refused is left as its command is
  pub line : (b : Board) (text : List ℕ) (change : Change) (code : Code) → line_of text ≡ Some (Do change) → (made b change).result ≡ Err code
      → LeftAlone b (call.Monitor text) code × ((performed b (call.Monitor text)).result ≡ Ok (string (refusal_line code)))
  -- and the board is as it was where an attempt was cut
  pub cut : (b : Board) (c : Call) (i : ℕ) (joined : Bool) → AsItWas b (attempted b c i joined)
