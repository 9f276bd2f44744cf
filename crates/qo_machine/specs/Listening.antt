-- What listeners hear of a step and of a run.
use Rattle.std.specs.Prelude.{◌≡◌, ◌<◌, ◌≤◌, ℕ, true, List, [], ◌∷◌, ◌++◌, length, ◌+◌, Option, Some, None, option_to_list, Result, Ok, Err}
use Rattle.qo_causes.specs.Hub.{AtEnd, is_end}
use Rattle.qo_causes.specs.declared.inputs.Input.{Input}
use Rattle.qo_values.specs.declared.limits.TheConstants.{NOTES_KEPT}
use Rattle.qo_model.specs.Board.{Board}
use Rattle.qo_model.specs.declared.notes.Note.{Note}
use Rattle.qo_listen.specs.Ears.{AllHeard, Ear}
use Rattle.qo_telling.specs.Telling.{HeardFronts, IsCounted}
use Rattle.qo_machine.specs.Machine.{Choice, IsIn, Made, Message, Seen, State, opening, serve_by, step}
use Rattle.qo_machine.specs.Runs.{Cut, EndsAtLast, OpenRun, Told, Turn, Turns, after, has_end, state_after}
use Rattle.qo_machine.specs.Serving.{ServesBy}
use Rattle.qo_machine.specs.declared.running.Ending.{Ending}
use Rattle.qo_machine.specs.declared.running.Ending.TheVariants.{Done, Bad, Memory, NextFailed, SendFailed, Limit}

-- from one board to a later one each listener heard what was noted between, in order, while the total counts each note
abbrev pub Hears : Board → Board → List Ear → List Ear → Type 0
Hears b c olds news = (more : List Note) × (c.notes ≡ b.notes ++ more) × (IsCounted c → AllHeard more olds news)

-- each heard a front of it
abbrev pub HearsFront : Board → Board → List Ear → List Ear → Type 0
HearsFront b c olds news = (more : List Note) × (c.notes ≡ b.notes ++ more) × (IsCounted c → HeardFronts more olds news)

-- what is noted from one board to a later one comes after what was, and is no more than is kept
abbrev pub Follows : Board → Board → Type 0
Follows b c = (more : List Note) × (c.notes ≡ b.notes ++ more) × (length more ≤ NOTES_KEPT)

-- by some choices a step from a state sends this, a machine is then in the state that it leads to, and each listener heard what was noted on the way
abbrev pub AnswersTold : State → Input → List Message → Seen → List Ear → List Ear → Type 0
AnswersTold s input outs m olds news =
    (choices : List Choice) × ((step s input choices).outs ≡ outs) × IsIn (step s input choices).state m
    × Hears s.board (step s input choices).state.board olds news

-- by some choices each listener heard a front of what a step notes
abbrev pub StepHeardFront : State → Input → List Ear → List Ear → Type 0
StepHeardFront s input olds news = (choices : List Choice) × HearsFront s.board (step s input choices).state.board olds news

-- by some choices these things, each by its step, send this and lead where a machine then is, and each listener heard what was noted on the way
abbrev pub ServesTold : {X : Type 0} → (Choice → State → X → Made) → State → List X → List Message → Seen → List Ear → List Ear → Type 0
ServesTold f s xs outs m olds news = (t : State) × IsIn t m × ServesBy f s xs outs t × Hears s.board t.board olds news

-- by some choices each listener heard a front of what these things note
abbrev pub ServesHeardFront : {X : Type 0} → (Choice → State → X → Made) → State → List X → List Ear → List Ear → Type 0
ServesHeardFront f s xs olds news = (choices : List Choice) × HearsFront s.board (serve_by f xs s choices).state.board olds news

-- the board after a last turn, if there is such a turn
abbrev pub board_after : State → Option Turn → Board
board_after s None = s.board
board_after s (Some t) = (after s t).board

-- what one turn did by its answer, from a state, as of a machine that nobody listens to; and each listener heard what it noted, or where memory ran out a front
abbrev pub TurnTold : State → Seen → Told → Told → Option (Option ℕ) → List Ear → List Ear → Result (Unit {0}) Ending → Type 0
TurnTold from to old new bad olds news (Ok u) =
    (t : Turn) × Turns from old new (t ∷ []) × IsIn (after from t) to × (is_end t.input.what ≡ true → AtEnd new.inputs bad None)
    × Hears from.board (after from t).board olds news
TurnTold from to old new bad olds news (Err (Bad n)) =
    Turns from old new [] × AtEnd new.inputs bad (Some n) × Hears from.board from.board olds news
TurnTold from to old new bad olds news (Err NextFailed) = Turns from old new [] × Hears from.board from.board olds news
TurnTold from to old new bad olds news (Err SendFailed) =
    (last : Option Turn) × Cut from old new last × Hears from.board (board_after from last) olds news
TurnTold from to old new bad olds news (Err Memory) =
    (last : Option Turn) × Cut from old new last × HearsFront from.board (board_after from last) olds news
TurnTold from to old new bad olds news (Err Done) = ⊥
TurnTold from to old new bad olds news (Err Limit) = ⊥

-- each listener heard all notes of a run that came to a board, in order; and a front of them
abbrev pub HeardAll : Board → List Ear → List Ear → Type 0
HeardAll b olds news = IsCounted b → AllHeard b.notes olds news

abbrev pub HeardSo : Board → List Ear → List Ear → Type 0
HeardSo b olds news = IsCounted b → HeardFronts b.notes olds news

-- whole turns, after which the run has not ended, and then one that was cut, if any; at most so many; and what listeners heard at the board after all of them
abbrev pub CutRunTold : ℕ → Told → Told → (Board → Type 0) → Type 0
CutRunTold limit old new heard =
    (mid : Told) × (turns : List Turn) × (last : Option Turn) × OpenRun old mid turns × Cut (state_after opening turns) mid new last
    × (length turns + length (option_to_list last) ≤ limit) × heard (board_after (state_after opening turns) last)

-- what a run did by how it ended, as of one that nobody listens to; and each listener heard the notes of the run, in order, or where memory ran out a front of
-- them
abbrev pub RunTold : Ending → ℕ → Told → Told → Option (Option ℕ) → List Ear → List Ear → Type 0
RunTold Done limit old new bad olds news =
    (turns : List Turn) × Turns opening old new turns × EndsAtLast turns × (length turns ≤ limit) × (has_end turns ≡ true → AtEnd new.inputs bad None)
    × HeardAll (state_after opening turns).board olds news
RunTold (Bad n) limit old new bad olds news =
    (turns : List Turn) × OpenRun old new turns × (length turns < limit) × AtEnd new.inputs bad (Some n)
    × HeardAll (state_after opening turns).board olds news
RunTold Limit limit old new bad olds news =
    (turns : List Turn) × OpenRun old new turns × (length turns ≡ limit) × HeardAll (state_after opening turns).board olds news
RunTold NextFailed limit old new bad olds news =
    (turns : List Turn) × OpenRun old new turns × (length turns < limit) × HeardAll (state_after opening turns).board olds news
RunTold SendFailed limit old new bad olds news = CutRunTold limit old new (λ b. HeardAll b olds news)
RunTold Memory limit old new bad olds news = CutRunTold limit old new (λ b. HeardSo b olds news)
