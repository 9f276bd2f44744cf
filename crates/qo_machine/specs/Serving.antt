-- For proofs alone. Items and lines served one after another, whatever choices and whatever items or lines come after.
use Rattle.std.specs.Prelude.{◌≡◌, ℕ, List, [], ◌∷◌, ◌++◌, map, Option, option_to_list, Ok, IfOk, ◌⊎◌}
use Rattle.qo_causes.specs.declared.hubs.Lane.{Lane}
use Rattle.qo_causes.specs.declared.inputs.Moment.{Moment}
use Rattle.qo_framing.specs.declared.items.Item.{Item}
use Rattle.qo_requests.specs.declared.calls.Call.{Call}
use Rattle.qo_sessions.specs.Sessions.{in_mode}
use Rattle.qo_sessions.specs.declared.acts.SessionAct.{SessionAct}
use Rattle.qo_sessions.specs.declared.acts.SessionAct.TheVariants.{Answer, Negotiated, Do}
use Rattle.qo_sessions.specs.declared.modes.Mode.TheVariants.{Commanding}
use Rattle.qo_commands.specs.Hearing.{Outcome}
use Rattle.qo_model.specs.Board.{Board}
use Rattle.qo_commands.specs.Commands.{Done, event_of, performed}
use Rattle.qo_realize.specs.Parts.{Parts}
use Rattle.qo_realize.specs.Representation.{Stands}
use Rattle.qo_machine.specs.Machine.{Choice, IsIn, Made, Message, Seen, State, answer_line, preceded, by_item, by_line, event_outs, made_by, reply, serve_by, session_of, state_with, with_session}
use Rattle.qo_machine.specs.declared.machines.Reply.{Reply}

-- the state when it is known what an item comes to
abbrev pub moved : State → ℕ → SessionAct → State
moved s n (Answer code id) = s
moved s n (Negotiated id) = with_session s n (in_mode Commanding (session_of s n))
moved s n (Do command id) = s

-- by some choice this command sends this, and a machine is then in the state that it leads to
abbrev pub CommandServed : Moment → ℕ → State → Call → Option (List ℕ) → List Message → Seen → Type 0
CommandServed at n s command id outs m =
    (choice : Choice) × ((made_by choice at n s (Do command id)).outs ≡ outs) × IsIn (made_by choice at n s (Do command id)).state m

-- by some choices these things, each by its step, send this and lead there, and then further ones go on from there
abbrev pub ServesBy : {X : Type 0} → (Choice → State → X → Made) → State → List X → List Message → State → Type 0
ServesBy {X = X} f s xs outs t =
    (choices : List Choice) × ((further : List X) (rest : List Choice)
    → serve_by f (xs ++ further) s (choices ++ rest) ≡ preceded outs (serve_by f further t rest))

-- by some choices they send this, and a machine is then in the state that they lead to
abbrev pub ServesToBy : {X : Type 0} → (Choice → State → X → Made) → State → List X → List Message → Seen → Type 0
ServesToBy f s xs outs m = (t : State) × IsIn t m × ServesBy f s xs outs t

-- where memory ran out for them, a machine is in a state that a front of them leads to by some choices
abbrev pub ServesFrontBy : {X : Type 0} → (Choice → State → X → Made) → State → List X → Seen → Type 0
ServesFrontBy {X = X} f s xs m =
    (front : List X) × (back : List X) × (choices : List Choice) × (xs ≡ front ++ back) × IsIn (serve_by f front s choices).state m

-- so items of a session
abbrev pub Serves : Moment → ℕ → State → List Item → List Message → State → Type 0
Serves at n s items outs t = ServesBy (by_item at n) s items outs t

abbrev pub ServesTo : Moment → ℕ → State → List Item → List Message → Seen → Type 0
ServesTo at n s items outs m = ServesToBy (by_item at n) s items outs m

abbrev pub ServesFront : Moment → ℕ → State → List Item → Seen → Type 0
ServesFront at n s items m = ServesFrontBy (by_item at n) s items m

-- so lines of the guest
abbrev pub LinesTo : Moment → State → List (List ℕ) → List Message → Seen → Type 0
LinesTo at s lines outs m = ServesToBy (by_line at) s lines outs m

abbrev pub LinesFront : Moment → State → List (List ℕ) → Seen → Type 0
LinesFront at s lines m = ServesFrontBy (by_line at) s lines m

-- where memory ran out for a command, a machine is in the state that the command found, or in one that it leads to by some choice
abbrev pub CommandLeft : Moment → ℕ → State → Call → Option (List ℕ) → Seen → Type 0
CommandLeft at n s command id m = IsIn s m ⊎ ((choice : Choice) × IsIn (made_by choice at n s (Do command id)).state m)

-- a command came to what is defined, but for the events that wait: this is its reply, if there was memory for it, and its board stands
pub record Came (b : Board) (command : Call) (id : Option (List ℕ)) (r : Reply) (v : Parts) : Type 0 where
  pub stands : Stands (performed b command).board v
  pub events : option_to_list r.event ≡ (performed b command).events
  pub ends : r.ends ≡ (performed b command).ends
  pub replied : IfOk r.text (λ text. text ≡ reply id (performed b command).result)

-- so did a line of the monitor, which comes to this
pub record CameAs (d : Done) (id : Option (List ℕ)) (r : Reply) (v : Parts) : Type 0 where
  pub stands : Stands d.board v
  pub events : option_to_list r.event ≡ d.events
  pub ends : r.ends ≡ d.ends
  pub replied : IfOk r.text (λ text. text ≡ reply id d.result)

-- a line of the guest came to its outcome, but for the events that wait: this is its answer, if there was memory for it, and its board stands
pub record CameTo (o : Outcome) (r : Reply) (v : Parts) : Type 0 where
  pub stands : Stands o.board v
  pub events : option_to_list r.event ≡ o.events
  pub ends : r.ends ≡ o.ends
  pub replied : IfOk r.text (λ text. text ≡ answer_line o.answer)

-- these messages tell of the events that wait on the board, and of the event of a command or a line, if it has one, and are then its reply, on its lane
abbrev pub Tells : Moment → Lane → Seen → Reply → List Message → Type 0
Tells at lane m r front =
    (text : List ℕ) × (r.text ≡ Ok text)
    × ((b : Board) → Stands b m.board → front ≡ event_outs at (state_with b m) (map event_of b.events ++ option_to_list r.event) ++ (lane, text) ∷ [])
