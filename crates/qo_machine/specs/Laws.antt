-- What holds of the machine alone.
use Rattle.std.specs.Prelude.{◌≡◌, ◌≢◌, ℕ, true, false, List, [], ◌∷◌, ◌++◌, Some, ⊤}
use Rattle.std.specs.List.{AllByRecursion}
use Rattle.qo_causes.specs.Names.{Names}
use Rattle.qo_causes.specs.declared.hubs.Lane.TheVariants.{Session as to_session}
use Rattle.qo_causes.specs.declared.inputs.Input.{Input}
use Rattle.qo_causes.specs.declared.inputs.Moment.{Moment}
use Rattle.qo_causes.specs.declared.inputs.What.{What}
use Rattle.qo_causes.specs.declared.inputs.What.TheVariants.{Open, Bytes, Shut, Guest}
use Rattle.qo_framing.specs.declared.items.Item.{Item}
use Rattle.qo_model.specs.Board.{Board, is_live}
use Rattle.qo_model.specs.FinalNotes.{FinalOnce, NotesInOrder}
use Rattle.qo_model.specs.Holders.{HeldFrom}
use Rattle.qo_model.specs.Paths.{attached}
use Rattle.qo_realize.specs.SoundBoard.{SoundBoard}
use Rattle.qo_sound.specs.TreeKept.{SoundTree}
use Rattle.qo_sound_devices.specs.SoundDevices.{SoundDevices}
use Rattle.qo_sound_bounds.specs.SoundHolds.{SoundHolds}
use Rattle.qo_sound_clocks.specs.ClockRuns.{SoundRun}
use Rattle.qo_sound_phases.specs.PhaseRuns.{SoundResets}
use Rattle.qo_sound_phases.specs.Phases.{IsInTurn, phases_of, stage_of}
use Rattle.qo_sound_phases.specs.PhasesKept.{may_reset}
use Rattle.qo_sound_phases.specs.SoundPhases.{stage_now}
use Rattle.qo_sessions.specs.Acts.{act}
use Rattle.qo_sessions.specs.declared.acts.SessionAct.{SessionAct}
use Rattle.qo_sessions.specs.declared.acts.SessionAct.TheVariants.{Answer, Negotiated, Do}
use Rattle.qo_machine.specs.Machine.{Choice, Message, State, item_step, mode_of, opening, session_of, step}
use Rattle.qo_machine.specs.Runs.{Turn, outs_of, state_after, transcript_of}

-- only one session changes, and only it is sent anything
pub record Alone (n : ℕ) (s : State) (outs : List Message) (t : State) : Type 0 where
  pub board : t.board ≡ s.board
  pub guest_line : t.guest_line ≡ s.guest_line
  pub ended : t.ended ≡ s.ended
  pub sessions : (m : ℕ) → m ≢ n → session_of t m ≡ session_of s m
  pub lanes : AllByRecursion (λ (m : Message). m.0 ≡ to_session n) outs

-- an item that is refused by itself, or negotiates; any other is a command
abbrev pub IsOwn : SessionAct → Type 0
IsOwn (Answer code id) = ⊤
IsOwn (Negotiated id) = ⊤
IsOwn (Do request id) = ⊥

-- opening and shutting touch one session
abbrev pub OpenAlone : Type 0
OpenAlone = (s : State) (at : Moment) (n : ℕ) (choices : List Choice) →
    Alone n s (step s (record { at = at; what = Open n }) choices).outs (step s (record { at = at; what = Open n }) choices).state

abbrev pub ShutAlone : Type 0
ShutAlone = (s : State) (at : Moment) (n : ℕ) (choices : List Choice) →
    Alone n s (step s (record { at = at; what = Shut n }) choices).outs (step s (record { at = at; what = Shut n }) choices).state

-- so does an item that is no command
abbrev pub ItemAlone : Type 0
ItemAlone = (s : State) (at : Moment) (n : ℕ) (item : Item) (choice : Choice) → IsOwn (act (mode_of s n) item) →
    Alone n s (item_step choice at n s item).outs (item_step choice at n s item).state

abbrev pub LanesAreApart : Type 0
LanesAreApart = OpenAlone × ShutAlone × ItemAlone

-- two lists of turns send the same, with the same transcript, and lead to the same state
pub record Matches (ts us : List Turn) : Type 0 where
  pub outs : outs_of opening ts ≡ outs_of opening us
  pub lines : transcript_of opening ts ≡ transcript_of opening us
  pub state : state_after opening ts ≡ state_after opening us

-- a turn in which no session is lost, while sessions have these names
abbrev pub quiet : Names → Moment → What → List Choice → Turn
quiet names at what choices = record { input = record { at = at; what = what }; names = names; choices = choices; lost = []; cut = λ _. 0 }

-- of a run, one piece that comes whole, or in two at the same moment, with the same names
abbrev pub in_one : (List ℕ → What) → List Turn → List Turn → Names → Moment → List ℕ → List Choice → List Turn
in_one piece before after names at bytes choices = before ++ quiet names at (piece bytes) choices ∷ after

abbrev pub in_two : (List ℕ → What) → List Turn → List Turn → Names → Moment → List ℕ → List ℕ → List Choice → List Choice → List Turn
in_two piece before after names at a b first second = before ++ quiet names at (piece a) first ∷ quiet names at (piece b) second ∷ after

-- whichever way such a piece comes, there is a run of the other way that sends the same
abbrev pub CutAnywhere : (List ℕ → What) → Type 0
CutAnywhere piece = (before after : List Turn) (names : Names) (at : Moment) (a b : List ℕ) →
    ((choices : List Choice) → (first second : List Choice) × Matches (in_one piece before after names at (a ++ b) choices)
    (in_two piece before after names at a b first second))
    × ((first second : List Choice)
    → (choices : List Choice) × Matches (in_one piece before after names at (a ++ b) choices) (in_two piece before after names at a b first second))

-- bytes of a session, and of the guest, may be cut anywhere
abbrev pub ChunksAreFree : Type 0
ChunksAreFree = ((n : ℕ) → CutAnywhere (Bytes n)) × CutAnywhere Guest

-- over every run the notes are in order, with the births and types of the objects, and each birth has its final notes at most once, derived first, and no note
-- after them
abbrev pub FinalOnceInRuns : Type 0
FinalOnceInRuns =
    (turns : List Turn) → NotesInOrder (state_after opening turns).board × ((n : ℕ) → FinalOnce n (state_after opening turns).board.notes)

-- each step keeps a fact on the board, and so it is a fact over every run
pub record KeptInRuns (P : Board → Type 0) : Type 0 where
  pub step : (s : State) (input : Input) (choices : List Choice) → P s.board → P (step s input choices).state.board
  pub run : (turns : List Turn) → P (state_after opening turns).board

-- that the tree of the board is sound; with it the places of devices and the lists that name devices; and with these its clocks and their numbers, and that no
-- timer is ahead of the time
pub record SoundInRuns : Type 0 where
  pub tree : KeptInRuns SoundTree
  pub devices : KeptInRuns SoundDevices
  pub clocks : KeptInRuns SoundRun
  -- and the whole of what a sound board is
  pub whole : KeptInRuns SoundBoard

-- the phases are sound, and no object that a reset reaches has more holds on it and above it than may be
abbrev pub SoundHeld : Board → Type 0
SoundHeld b = SoundResets b × SoundHolds b

-- over every run the phases of resets that are noted of each birth are in turn: the beginning of enter, hold, exit, repeated; and who is attached and may be
-- held in reset is held by its notes where a hold is on it or above it, and nowhere else; and there are not too many holds
pub record PhasesInRuns : Type 0 where
  pub kept : KeptInRuns SoundResets
  pub few : KeptInRuns SoundHeld
  pub in_turn : (turns : List Turn) (n : ℕ) → IsInTurn (phases_of n (state_after opening turns).board.notes)
  pub in_reset : (turns : List Turn) (n : ℕ) → may_reset (state_after opening turns).board n ≡ true
      → stage_of n (state_after opening turns).board.notes ≡ Some (stage_now (state_after opening turns).board n)

-- over every run, what is there and is not attached is held from a cycle of child slots and strong links, or from an attached object
abbrev pub HeldInRuns : Type 0
HeldInRuns =
    (turns : List Turn) (n : ℕ) → is_live (state_after opening turns).board n ≡ true → attached (state_after opening turns).board n ≡ false
    → HeldFrom (state_after opening turns).board n
