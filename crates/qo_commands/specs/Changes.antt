-- The commands that change the board: what each leaves, by its answer.
use Rattle.std.specs.Prelude.{◌≡◌, ◌==◌, ℕ, Bool, if◌then◌else◌, Option, Some, Result, Ok, Err, ◌⊎◌, ⊤}
use Rattle.qo_values.specs.declared.codes.Code.{Code}
use Rattle.qo_model.specs.Board.{Board}
use Rattle.qo_model.specs.Objects.{attempted_as}
use Rattle.qo_plug.specs.Admission.{wanted}
use Rattle.qo_plug.specs.Cuts.{cut_as}
use Rattle.qo_properties.specs.declared.refusals.Refusal.{Refusal}
use Rattle.qo_properties.specs.declared.refusals.Refusal.TheVariants.{Refused, Memory}
use Rattle.qo_realize.specs.Parts.{Parts}
use Rattle.qo_realize.specs.Representation.{Stands}
use Rattle.qo_requests.specs.declared.calls.Addition.TheVariants.{ObjectAdd, DeviceAdd}
use Rattle.qo_requests.specs.declared.calls.Call.{Call}
use Rattle.qo_requests.specs.declared.calls.Call.TheVariants as call
use Rattle.qo_requests.specs.declared.calls.Change.{Change}
use Rattle.qo_requests.specs.declared.calls.Change.TheVariants.{Add, Alter}
use Rattle.qo_text.specs.Lines.{line_of}
use Rattle.qo_text.specs.declared.lines.Line.{Line}
use Rattle.qo_text.specs.declared.lines.Line.TheVariants.{Do}
use Rattle.qo_commands.specs.Commands as defined
use Rattle.qo_commands.specs.Commands.{empty, made, refused_with, returned}
use Rattle.qo_commands.specs.Views.{done_of}
use Rattle.qo_commands.specs.declared.commands.Done.{Done}

-- the board after an attempt of a command that was cut for want of memory, when it had made so many objects, the last of
-- them joined or not: `object-add` makes one, and `device_add` those of its device, where nothing bars them
abbrev pub cut_short : Board → Change → ℕ → Bool → Board
cut_short b (Alter alteration) i joined = b
cut_short b (Add (ObjectAdd driver id props)) i joined = if i == 1 then attempted_as b driver id else b
cut_short b (Add (DeviceAdd driver id bus props)) i joined = cut_as b (wanted driver id bus props) i joined

-- a line of the monitor is cut short as its command is
abbrev pub line_cut : Board → Option Line → ℕ → Bool → Board
line_cut b (Some (Do change)) i joined = cut_short b change i joined
line_cut b line i joined = b

abbrev pub attempted : Board → Call → ℕ → Bool → Board
attempted b (call.Query query) i joined = b
attempted b (call.Change change) i joined = cut_short b change i joined
attempted b (call.Monitor text) i joined = line_cut b (line_of text) i joined

-- a command came to what is defined, but for the events that wait
abbrev pub Came : defined.Done → Done → Parts → Type 0
Came is d p = Stands is.board p × (done_of is.board d ≡ is)

-- so did one that makes no object; for want of memory the board is as it was
abbrev pub Alters : {E : Type 0} → Board → defined.Done → Result Done E → Parts → Type 0
Alters b is (Ok d) p = Came is d p
Alters b is (Err e) p = Stands b p

-- where memory ran out the board is as it was, or an attempt was cut
abbrev pub Left : Board → Call → Parts → Type 0
Left b command p = Stands b p ⊎ ((i : ℕ) × (joined : Bool) × Stands (attempted b command i joined) p)

-- a change came to what is defined; for want of memory the board is as it was, or an attempt was cut
abbrev pub Changes : {E : Type 0} → Board → Change → Result Done E → Parts → Type 0
Changes b change (Ok d) p = Came (made b change) d p
Changes b change (Err e) p = Left b (call.Change change) p

-- what a change comes to that returns nothing, by what the board's call answers
abbrev pub by_answer : Board → Result (Unit {0}) Code → defined.Done
by_answer b (Ok u) = returned b empty
by_answer b (Err code) = refused_with b code

-- the same of a call that may want memory
abbrev pub ComesTo : {E : Type 0} → Result (Unit {0}) Refusal → Result Done E → Type 0
ComesTo (Ok u) (Ok d) = (b : Board) → done_of b d ≡ returned b empty
ComesTo (Err (Refused code)) (Ok d) = (b : Board) → done_of b d ≡ refused_with b code
ComesTo (Err Memory) (Err e) = ⊤
ComesTo answer outcome = ⊥
