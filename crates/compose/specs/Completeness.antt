-- That the program does all that it is asked (README), where nothing stands in its way but that memory runs out.
use Rattle.std.specs.Prelude.{◌≡◌, ℕ, ◌<◌, ◌⊎◌, ⊤, Bool, true, false, List, length, Option, None, Some, IfSome}
use Rattle.qo_causes.specs.Cause.{Rose}
use Rattle.qo_causes.specs.Hub.{AtEnd}
use Rattle.qo_causes.specs.Names.{Given}
use Rattle.qo_machine.specs.Answering.{AreAnswered}
use Rattle.qo_machine.specs.Machine.{opening}
use Rattle.qo_machine.specs.Runs.{EndsAtLast, OpenRun, Told, Turn, Turns}
use Rattle.qo_record.specs.Record.{bad_place, stream_given}
use Rattle.qo_values.specs.declared.limits.TheConstants.{INPUTS_MAX}
use Rattle.qo_words.specs.Words.{Order, demo, types}
use Rattle.compose.specs.Replay.{EndedReplay, TakeToEnd}
use Rattle.compose.specs.declared.statuses.Status.{Status}
use Rattle.compose.specs.declared.statuses.Status.TheVariants.{Done, Usage, BadRecord, Memory, ReadFault, WriteFault, HubFault, InputLimit, BadBoard}

-- no fault was counted
abbrev pub NoFault : ℕ → ℕ → Type 0
NoFault before now = Rose before now → ⊥

abbrev pub EndsWell : Status → Type 0
EndsWell status = (status ≡ Done) ⊎ (status ≡ Memory)

-- a record without a bad place, of fewer inputs than a run may take
pub record IsWhole (bytes : List ℕ) : Type 0 where
  pub good : bad_place bytes ≡ None
  pub few : length (stream_given bytes) < INPUTS_MAX

-- the run took the inputs of the record up to the one at which it ended, or all of them and the end; its whole transcript was put, and in it each item and each
-- line was answered exactly once
abbrev pub RanWhole : List ℕ → Option (List ℕ) → Option (List ℕ) → Type 0
RanWhole bytes held_old held_new =
    (turns : List Turn) × EndedReplay held_old held_new turns × TakeToEnd turns bytes × AreAnswered opening turns

-- `replay` over a source, if it tells its bytes, by what the sink held before and holds then
abbrev pub CompletesReplay : Status → Option (List ℕ) → Option (List ℕ) → Option (List ℕ) → Type 0
CompletesReplay status left held_old held_new =
    IfSome left (λ bytes. IsWhole bytes → ((status ≡ Done) × RanWhole bytes held_old held_new) ⊎ (status ≡ Memory))

-- `watch` over a source, if it tells its bytes
abbrev pub CompletesWatch : Status → Option (List ℕ) → Type 0
CompletesWatch status left = IfSome left (λ bytes. IsWhole bytes → EndsWell status)

-- a hub that tells its inputs, of which there are fewer than a run may take, and that there is no bad place
pub record IsWholeHub (inputs : Option (List Given)) (bad : Option (Option ℕ)) : Type 0 where
  pub all : List Given
  pub told : inputs ≡ Some all
  pub few : length all < INPUTS_MAX
  pub good : bad ≡ Some None

-- `serve`, by its status. Its run has ended, and in it each item and each line was answered exactly once; or memory ran out. Or the run had not ended when
-- it had taken as many inputs as it may, or when the bad place of its hub came.
abbrev pub ServedWhole : Status → Told → Told → Option (Option ℕ) → Type 0
ServedWhole Done old new bad = (turns : List Turn) × Turns opening old new turns × EndsAtLast turns × AreAnswered opening turns
ServedWhole Memory old new bad = ⊤
ServedWhole InputLimit old new bad = (turns : List Turn) × OpenRun old new turns × (length turns ≡ INPUTS_MAX)
ServedWhole BadRecord old new bad = (turns : List Turn) × (place : ℕ) × OpenRun old new turns × AtEnd new.inputs bad (Some place)
ServedWhole Usage old new bad = ⊥
ServedWhole ReadFault old new bad = ⊥
ServedWhole WriteFault old new bad = ⊥
ServedWhole HubFault old new bad = ⊥
ServedWhole BadBoard old new bad = ⊥

-- of these a hub whose inputs come to their end in time has the first two
abbrev pub CompletesServe : Status → Told → Told → Option (Option ℕ) → Type 0
CompletesServe status old new bad = ServedWhole status old new bad × (IsWholeHub old.inputs bad → EndsWell status)

-- does the order put lines of its own
abbrev pub puts_lines : Option Order → Bool
puts_lines (Some (demo seed steps)) = true
puts_lines (Some types) = true
puts_lines o = false
