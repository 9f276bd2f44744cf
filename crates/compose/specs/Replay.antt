-- What the top call does, by its status.
use Rattle.std.specs.Prelude.{◌≡◌, ℕ, ◌+◌, ◌-◌, ◌<◌, ◌≤◌, ◌⊎◌, true, false, List, [], ◌∷◌, ◌++◌, length, take, Option, Some, None, IfSome, option_to_list, decimal, codes, slice_index_or}
use Rattle.std.specs.List.{AllByRecursion}
use Rattle.std.specs.Io.KnownBytes.{append_known, prepend_known}
use Rattle.qo_causes.specs.Bytes.{AppendsPrefix}
use Rattle.qo_causes.specs.Cause.{Rose}
use Rattle.qo_causes.specs.Names.{Given}
use Rattle.qo_machine.specs.Machine.{opening}
use Rattle.qo_machine.specs.Runs.{EndsAtLast, Turn, has_end, last_input, last_transcript, state_after, transcript_of, turn_inputs}
use Rattle.qo_machine.specs.declared.running.Ending.{Ending}
use Rattle.qo_machine.specs.declared.running.Ending.TheVariants as ending
use Rattle.qo_record.specs.Record.{bad_place, stream_given}
use Rattle.qo_record.specs.Replays.{told_bad}
use Rattle.qo_record.specs.declared.windows.TheConstants.{AHEAD_BYTES}
use Rattle.qo_values.specs.declared.limits.TheConstants.{INPUTS_MAX}
use Rattle.compose.specs.declared.statuses.Status.{Status}
use Rattle.compose.specs.declared.statuses.Status.TheVariants.{Done, Usage, BadRecord, Memory, ReadFault, WriteFault, HubFault, InputLimit, BadBoard}

-- no session is lost in these turns
abbrev pub NoneLost : List Turn → Type 0
NoneLost turns = AllByRecursion (λ (t : Turn). (n : ℕ) → slice_index_or t.lost n false ≡ false) turns

-- a run that has ended with its last turn, and not before; the whole transcript was put
pub record EndedReplay (held_old held_new : Option (List ℕ)) (turns : List Turn) : Type 0 where
  pub last : EndsAtLast turns
  pub few : length turns ≤ INPUTS_MAX
  pub lost : NoneLost turns
  pub put : held_new ≡ append_known held_old (transcript_of opening turns)

-- a run that has not ended; the whole transcript was put
pub record OpenReplay (held_old held_new : Option (List ℕ)) (turns : List Turn) : Type 0 where
  pub going : (state_after opening turns).ended ≡ false
  pub lost : NoneLost turns
  pub put : held_new ≡ append_known held_old (transcript_of opening turns)

-- a run that has not ended before its last turn; a front of its transcript was put, and at least all of it but for that turn, if there is one
pub record CutReplay (held_old held_new : Option (List ℕ)) (turns : List Turn) (last : Option Turn) : Type 0 where
  pub going : (state_after opening turns).ended ≡ false
  pub few : length turns + length (option_to_list last) ≤ INPUTS_MAX
  pub lost : NoneLost turns
  pub put : (held : Option (List ℕ)) × (held ≡ append_known held_old (transcript_of opening turns))
      × AppendsPrefix held held_new (last_transcript (state_after opening turns) last)

-- some inputs, with the names that stand with each, begin with others
abbrev pub BeginsWith : List Given → List Given → Type 0
BeginsWith inputs front = (more : List Given) × (inputs ≡ front ++ more)

-- the turns take the inputs of a record up to the one at which the run ended, or all of them and the end, there being no bad place
abbrev pub TakeToEnd : List Turn → List ℕ → Type 0
TakeToEnd turns bytes =
    (rest : List Given) × (stream_given bytes ≡ turn_inputs turns ++ rest) × (has_end turns ≡ true → (rest ≡ []) × (bad_place bytes ≡ None))

-- they take all inputs of a record, whose bad place is told so
abbrev pub TakeToBad : List Turn → ℕ → List ℕ → Type 0
TakeToBad turns place bytes = (turn_inputs turns ≡ stream_given bytes) × (told_bad bytes ≡ Some place)

-- they take the first inputs of a record, as many as a run may take
abbrev pub TakeToLimit : List Turn → List ℕ → Type 0
TakeToLimit turns bytes = (turn_inputs turns ≡ take INPUTS_MAX (stream_given bytes)) × (length (turn_inputs turns) ≡ INPUTS_MAX)

-- the inputs whose entries end so many bytes or more before the end of these
abbrev pub inputs_before : List ℕ → List Given
inputs_before taken = stream_given (take (length taken - AHEAD_BYTES) taken)

-- the inputs are a front of those of a record, and their entries stand in the bytes that were taken of it; the turns but for the
-- last take at least those whose entries end AHEAD_BYTES or more before the end of the bytes taken
pub record TakePart (taken : List ℕ) (turns : List Turn) (last : Option Turn) (bytes : List ℕ) : Type 0 where
  pub front : BeginsWith (stream_given bytes) (turn_inputs turns ++ last_input last)
  pub stand : BeginsWith (stream_given taken) (turn_inputs turns ++ last_input last)
  pub covers : BeginsWith (turn_inputs turns) (inputs_before taken)

-- they take all inputs whose whole entries stand in the bytes that were taken
abbrev pub TakeHeld : List ℕ → List Turn → Type 0
TakeHeld taken turns = turn_inputs turns ≡ stream_given taken

-- a run of a front of the record, if the source tells it, that was cut in its last turn
abbrev pub IsCut : Option (List ℕ) → List ℕ → Option (List ℕ) → Option (List ℕ) → Type 0
IsCut bytes taken held_old held_new =
    (turns : List Turn) × (last : Option Turn) × CutReplay held_old held_new turns last × IfSome bytes (TakePart taken turns last)

-- the status of a run by how it ended, and the place that it tells
abbrev pub status_of : Ending → Status
status_of ending.Done = Done
status_of (ending.Bad n) = BadRecord
status_of ending.Memory = Memory
status_of ending.NextFailed = ReadFault
status_of ending.SendFailed = WriteFault
status_of ending.Limit = InputLimit

abbrev pub offset_of : Ending → ℕ
offset_of (ending.Bad n) = n
offset_of e = 0

-- what was done with a record, if the source tells it, of which these bytes were taken, by the status; this is the place that is told
abbrev pub DidReplay : Status → Option (List ℕ) → List ℕ → Option (List ℕ) → Option (List ℕ) → ℕ → Type 0
DidReplay Done bytes taken held_old held_new place =
    (turns : List Turn) × EndedReplay held_old held_new turns × IfSome bytes (TakeToEnd turns)
DidReplay BadRecord bytes taken held_old held_new place =
    (turns : List Turn) × OpenReplay held_old held_new turns × (length turns < INPUTS_MAX) × IfSome bytes (TakeToBad turns place)
DidReplay InputLimit bytes taken held_old held_new place =
    (turns : List Turn) × OpenReplay held_old held_new turns × (length turns ≡ INPUTS_MAX) × IfSome bytes (TakeToLimit turns)
DidReplay ReadFault bytes taken held_old held_new place =
    (turns : List Turn) × OpenReplay held_old held_new turns × (length turns < INPUTS_MAX) × IfSome bytes (TakePart taken turns None)
    × IfSome bytes (λ _. TakeHeld taken turns)
DidReplay WriteFault bytes taken held_old held_new place = IsCut bytes taken held_old held_new
DidReplay Memory bytes taken held_old held_new place = IsCut bytes taken held_old held_new
DidReplay Usage bytes taken held_old held_new place = ⊥
DidReplay HubFault bytes taken held_old held_new place = ⊥
DidReplay BadBoard bytes taken held_old held_new place = ⊥

-- the line that tells a status, where the bad place is this one, and where a bad board is told by no code; none for Done
abbrev pub line_of : Status → ℕ → List ℕ
line_of Done place = []
line_of Usage place =
    codes "usage: compose replay | serve --socket PATH --connections N | demo --seed N --steps K | types | rebuild | watch" ++ 10 ∷ []
line_of BadRecord place = codes "compose: bad record at byte " ++ decimal place ++ 10 ∷ []
line_of Memory place = codes "compose: out of memory" ++ 10 ∷ []
line_of ReadFault place = codes "compose: read fault" ++ 10 ∷ []
line_of WriteFault place = codes "compose: write fault" ++ 10 ∷ []
line_of HubFault place = codes "compose: hub fault" ++ 10 ∷ []
line_of InputLimit place = codes "compose: input limit" ++ 10 ∷ []
line_of BadBoard place = codes "compose: bad board: not a description" ++ 10 ∷ []

-- the line went to the complaints, whose count of faults is as before, or where the count rose a front of it
abbrev pub Complained : Option (List ℕ) → Option (List ℕ) → ℕ → ℕ → List ℕ → Type 0
Complained old new before now line = ((new ≡ append_known old line) × (now ≡ before)) ⊎ (AppendsPrefix old new line × Rose before now)

-- `replay`: these bytes were taken from the source, and this was done with the record that it had ahead; this is the place that is told
pub record Replayed (status : Status) (left_old left_new held_old held_new : Option (List ℕ)) (taken : List ℕ) (place : ℕ) : Type 0 where
  pub took : left_old ≡ prepend_known taken left_new
  pub did : DidReplay status left_old taken held_old held_new place
