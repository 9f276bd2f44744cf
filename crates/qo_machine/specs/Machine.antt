-- The machine: its state, and what one input does.
use Rattle.std.specs.Prelude.{◌≡◌, ℕ, zero, suc, nat_lt, Bool, true, false, if◌then◌else◌, List, [], ◌∷◌, ◌++◌, map, filter, Option, Result, Ok, Err, replicate, slice_set, slice_index_or}
use Rattle.std.specs.List.{flat_map}
use Rattle.serde_json.specs.Data.{Data}
use Rattle.qo_values.specs.declared.codes.Code.{Code}
use Rattle.qo_values.specs.declared.codes.Code.TheVariants.{E99}
use Rattle.qo_values.specs.declared.limits.TheConstants.{SESSIONS}
use Rattle.qo_causes.specs.declared.hubs.Lane.{Lane}
use Rattle.qo_causes.specs.declared.hubs.Lane.TheVariants.{Session as to_session, Guest as guest}
use Rattle.qo_causes.specs.declared.inputs.Input.{Input}
use Rattle.qo_causes.specs.declared.inputs.Moment.{Moment}
use Rattle.qo_causes.specs.declared.inputs.What.{What}
use Rattle.qo_causes.specs.declared.inputs.What.TheVariants.{Open, Bytes, Shut, Guest, Step, End}
use Rattle.qo_framing.specs.declared.items.Item.{Item}
use Rattle.qo_guest.specs.Answers.{text_of}
use Rattle.qo_guest.specs.declared.answers.GuestAnswer.{GuestAnswer}
use Rattle.qo_guest.specs.declared.answers.GuestAnswer.TheVariants.{NoMemory}
use Rattle.qo_commands.specs.Hearing.{Outcome, heard}
use Rattle.qo_commands.specs.Lines.{lines_of, without_return}
use Rattle.qo_layout.specs.Rows.{Wired}
use Rattle.qo_model.specs.Board.{Board}
use Rattle.qo_model.specs.Opening.{opening_board}
use Rattle.qo_replies.specs.Events.{event_line}
use Rattle.qo_replies.specs.Replies.{error_reply, greeting, return_reply}
use Rattle.qo_replies.specs.declared.events.Event.{Event}
use Rattle.qo_sessions.specs.Acts.{act}
use Rattle.qo_sessions.specs.Sessions.{begun, closed, fed, in_mode}
use Rattle.qo_sessions.specs.Sessions as sessions
use Rattle.qo_sessions.specs.declared.acts.SessionAct.{SessionAct}
use Rattle.qo_sessions.specs.declared.acts.SessionAct.TheVariants.{Answer, Negotiated, Do}
use Rattle.qo_sessions.specs.declared.modes.Mode.{Mode}
use Rattle.qo_sessions.specs.declared.modes.Mode.TheVariants.{Commanding, Closed}
use Rattle.qo_realize.specs.Parts.{Parts}
use Rattle.qo_realize.specs.Representation.{Stands}
use Rattle.qo_realize.specs.Time.{advanced}
use Rattle.qo_commands.specs.Changes.{attempted}
use Rattle.qo_commands.specs.Commands.{Done, empty, event_of, perform, without_events}

-- a message: where it goes, and its bytes with their line end
abbrev pub Message : Type 0
Message = Lane × List ℕ

-- what the machine is: the board, sixteen sessions, the front of the unfinished guest line, and whether the run has ended
pub record State : Type 0 where
  pub board : Board
  pub sessions : List sessions.State
  pub guest_line : List ℕ
  pub ended : Bool

-- the machine at first: the opening board, and all sessions closed
abbrev pub opening : State
opening = record { board = opening_board; sessions = replicate SESSIONS closed; guest_line = []; ended = false }

-- how an item is served: as it is defined; or, where it is a command, refused for want of memory, after an attempt that had made so many objects, the last of
-- them joined to the tree or not. A line of the guest is served as it is defined, or refused. A missing choice is `defined`.
pub data Choice : Type 0 where
  defined : Choice
  refused : ℕ → Bool → Choice

abbrev pub first : List Choice → Choice
first [] = defined
first (c ∷ cs) = c

abbrev pub others : List Choice → List Choice
others [] = []
others (c ∷ cs) = cs

-- what is sent, the state after it, and the choices that are left
pub record Stepped : Type 0 where
  pub outs : List Message
  pub state : State
  pub rest : List Choice

-- nothing is sent, and nothing changes
abbrev pub unchanged : State → List Choice → Stepped
unchanged s choices = record { outs = []; state = s; rest = choices }

-- some messages, and then those of a step
abbrev pub preceded : List Message → Stepped → Stepped
preceded outs r = record { outs = outs ++ r.outs; state = r.state; rest = r.rest }

-- a session by its number, and its mode
abbrev pub session_of : State → ℕ → sessions.State
session_of s n = slice_index_or s.sessions n closed

abbrev pub mode_of : State → ℕ → Mode
mode_of s n = (session_of s n).mode

abbrev pub with_session : State → ℕ → sessions.State → State
with_session s n session =
    record { board = s.board; sessions = slice_set s.sessions n session; guest_line = s.guest_line; ended = s.ended }

abbrev pub with_board : State → Board → State
with_board s board = record { board = board; sessions = s.sessions; guest_line = s.guest_line; ended = s.ended }

abbrev pub with_line : State → List ℕ → State
with_line s line = record { board = s.board; sessions = s.sessions; guest_line = line; ended = s.ended }

-- the run has ended: all sessions are closed, and no guest line is unfinished
abbrev pub finished : State → State
finished s = record { board = s.board; sessions = replicate SESSIONS closed; guest_line = []; ended = true }

-- the numbers below a number, rising
abbrev pub numbers_below : ℕ → List ℕ
numbers_below zero = []
numbers_below (suc n) = numbers_below n ++ n ∷ []

abbrev pub is_commanding : Mode → Bool
is_commanding Commanding = true
is_commanding mode = false

-- of some sessions, those that have negotiated; and all of these, in rising order: they are told of events
abbrev pub those_commanding : State → List ℕ → List ℕ
those_commanding s numbers = filter (λ n. is_commanding (mode_of s n)) numbers

abbrev pub commanding : State → List ℕ
commanding s = those_commanding s (numbers_below SESSIONS)

-- an event, to each of some sessions
abbrev pub event_messages : Event → Moment → List ℕ → List Message
event_messages event at numbers = map (λ (n : ℕ). (to_session n, event_line at event)) numbers

-- event by event, to each session that has negotiated
abbrev pub event_outs : Moment → State → List Event → List Message
event_outs at s events = flat_map (λ (event : Event). event_messages event at (commanding s)) events

-- the reply with what a command returned, or with the code that refused it
abbrev pub reply : Option (List ℕ) → Result Data Code → List ℕ
reply id (Ok value) = return_reply id value
reply id (Err code) = error_reply id code

-- what one item makes, or one line: messages, and the state after it
pub record Made : Type 0 where
  pub outs : List Message
  pub state : State

abbrev pub answered : State → ℕ → List ℕ → Made
answered s n text = record { outs = (to_session n, text) ∷ []; state = s }

-- the board after a command; it may end the run
abbrev pub after_command : Bool → State → State
after_command true s = finished s
after_command false s = s

-- a command was done: its events go first, then its reply
abbrev pub done : Moment → ℕ → State → Option (List ℕ) → Done → Made
done at n s id d =
    record { outs = event_outs at s d.events ++ (to_session n, reply id d.result) ∷ []; state = after_command d.ends (with_board s d.board) }

-- what an item of a session makes, by what it comes to
abbrev pub made : Moment → ℕ → State → SessionAct → Made
made at n s (Answer code id) = answered s n (error_reply id code)
made at n s (Negotiated id) = answered (with_session s n (in_mode Commanding (session_of s n))) n (return_reply id empty)
made at n s (Do command id) = done at n s id (perform s.board command)

-- a command that is refused for want of memory: E99 with its id, and nothing changes but what an attempt leaves; all else is as it is defined
abbrev pub made_by : Choice → Moment → ℕ → State → SessionAct → Made
made_by (refused i joined) at n s (Do command id) = answered (with_board s (attempted s.board command i joined)) n (error_reply id E99)
made_by choice at n s what = made at n s what

-- each item of a session makes exactly one reply
unfoldable pub item_step : Choice → Moment → ℕ → State → Item → Made
item_step choice at n s item = made_by choice at n s (act (mode_of s n) item)

-- an answer to the guest, with its line feed
abbrev pub answer_line : GuestAnswer → List ℕ
answer_line answer = text_of answer ++ 10 ∷ []

abbrev pub guest_told : State → GuestAnswer → Made
guest_told s answer = record { outs = (guest, answer_line answer) ∷ []; state = s }

-- what a line of the guest does was done: the events that wait go first, then its own, then its answer
abbrev pub line_done : Moment → State → Outcome → Made
line_done at s o =
    record {
      outs = event_outs at s (map event_of o.board.events ++ o.events) ++ (guest, answer_line o.answer) ∷ [];
      state = after_command o.ends (with_board s (without_events o.board));
    }

-- one that is refused for want of memory changes nothing
abbrev pub line_made : Choice → Moment → State → List ℕ → Made
line_made (refused i joined) at s line = guest_told s NoMemory
line_made defined at s line = line_done at s (heard s.board line)

-- each line of the guest is answered once
unfoldable pub line_step : Choice → Moment → State → List ℕ → Made
line_step choice at s line = line_made choice at s (without_return line)

abbrev pub serve_unless : Bool → Stepped → Stepped → Stepped
serve_unless true ended on = ended
serve_unless false ended on = on

-- some things in turn, each by the step of one, until the run has ended
abbrev pub serve_by : {X : Type 0} → (Choice → State → X → Made) → List X → State → List Choice → Stepped
serve_by f [] s choices = unchanged s choices
serve_by f (x ∷ xs) s choices =
    serve_unless s.ended (unchanged s choices)
    (preceded (f (first choices) s x).outs (serve_by f xs (f (first choices) s x).state (others choices)))

-- the items of a session, and the lines of the guest
abbrev pub by_item : Moment → ℕ → Choice → State → Item → Made
by_item at n choice s item = item_step choice at n s item

abbrev pub by_line : Moment → Choice → State → List ℕ → Made
by_line at choice s line = line_step choice at s line

abbrev pub serve : Moment → ℕ → List Item → State → List Choice → Stepped
serve at n items s choices = serve_by (by_item at n) items s choices

abbrev pub serve_lines : Moment → List (List ℕ) → State → List Choice → Stepped
serve_lines at lines s choices = serve_by (by_line at) lines s choices

-- a session opens, and is greeted; an open one stays as it is
abbrev pub opened : State → ℕ → Mode → List Choice → Stepped
opened s n Closed choices = record { outs = (to_session n, greeting) ∷ []; state = with_session s n begun; rest = choices }
opened s n mode choices = unchanged s choices

-- bytes of a session come: their items are served; a session that is not open has none
abbrev pub taken : Moment → State → ℕ → List ℕ → List Choice → Stepped
taken at s n bytes choices =
    let f = fed (session_of s n) bytes in
    serve at n f.items (with_session s n f.session) choices

-- bytes of the guest come: the lines that end in them are served, and the front of the unfinished one is kept
abbrev pub guest_taken : Moment → State → List ℕ → List Choice → Stepped
guest_taken at s bytes choices =
    let l = lines_of s.guest_line bytes in
    serve_lines at l.lines (with_line s l.rest) choices

-- one input; a session number above 15 changes nothing, nor does a step of the time that is refused
abbrev pub input_step : State → Moment → What → List Choice → Stepped
input_step s at (Open n) choices = if nat_lt n SESSIONS then opened s n (mode_of s n) choices else unchanged s choices
input_step s at (Bytes n bytes) choices = if nat_lt n SESSIONS then taken at s n bytes choices else unchanged s choices
input_step s at (Shut n) choices = if nat_lt n SESSIONS then unchanged (with_session s n closed) choices else unchanged s choices
input_step s at (Guest bytes) choices = guest_taken at s bytes choices
input_step s at (Step ns) choices = unchanged (with_board s (advanced s.board ns).board) choices
input_step s at End choices = unchanged (finished s) choices

-- one step of the machine; after the end of the run nothing is served
unfoldable pub step : State → Input → List Choice → Stepped
step s input choices = serve_unless s.ended (unchanged s choices) (input_step s input.at input.what choices)

-- what is seen of a machine: its board with its interrupt lines, its sessions, the front of the unfinished guest line, whether its run has ended, and whether it
-- ran out of memory
pub record Seen : Type 0 where
  pub board : Parts
  pub lines : Wired
  pub sessions : List sessions.State
  pub guest_line : List ℕ
  pub ended : Bool
  pub out_of_memory : Bool

-- the state of a machine that stands at a board
abbrev pub state_with : Board → Seen → State
state_with b m = record { board = b; sessions = m.sessions; guest_line = m.guest_line; ended = m.ended }

-- the same but for the board, for which the opening one stands: what is read of sessions alone is the same on every board
abbrev pub beside : Seen → State
beside m = state_with opening_board m

-- a machine is in a state: it stands at the state's board, and the rest is its own
pub record IsIn (s : State) (m : Seen) : Type 0 where
  pub stands : Stands s.board m.board
  pub rest : s ≡ state_with s.board m

-- by some choices, a step from a state sends this, and a machine is then in the state that it leads to
abbrev pub Answers : State → Input → List Message → Seen → Type 0
Answers s input outs m = (choices : List Choice) × ((step s input choices).outs ≡ outs) × IsIn (step s input choices).state m

-- the items that bytes of a session complete, and the state in which they are served: what is unfinished is kept
abbrev pub items_at : State → ℕ → List ℕ → List Item
items_at s n bytes = if nat_lt n SESSIONS then (fed (session_of s n) bytes).items else []

abbrev pub fed_at : State → ℕ → List ℕ → State
fed_at s n bytes = if nat_lt n SESSIONS then with_session s n (fed (session_of s n) bytes).session else s

-- by some choices, a front of some things leads to a board that the machine's objects stand for
abbrev pub BreaksOffIn : {X : Type 0} → (Choice → State → X → Made) → List X → State → Seen → Type 0
BreaksOffIn {X = X} f xs s m =
    (front : List X) × (back : List X) × (choices : List Choice) × (xs ≡ front ++ back) × Stands (serve_by f front s choices).state.board m.board

-- broken off: what the input completes was served in front
abbrev pub BreaksOffAt : State → Moment → What → Seen → Type 0
BreaksOffAt s at (Bytes n bytes) m = BreaksOffIn (by_item at n) (items_at s n bytes) (fed_at s n bytes) m
BreaksOffAt s at (Guest bytes) m =
    BreaksOffIn (by_line at) (lines_of s.guest_line bytes).lines (with_line s (lines_of s.guest_line bytes).rest) m
BreaksOffAt s at what m = Stands s.board m.board

abbrev pub BreaksOff : State → Input → Seen → Type 0
BreaksOff s i m = BreaksOffAt s i.at i.what m
