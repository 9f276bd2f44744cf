-- That what comes is answered, and once (QMP specification, 2.4 "Commands Responses"): an item of a session by one reply, a line of the guest by one answer.
use Rattle.std.specs.Prelude.{◌≡◌, ℕ, Bool, true, false, List, [], ◌∷◌, ◌++◌, Option, ◌⊎◌, ⊤}
use Rattle.qo_values.specs.declared.codes.Code.TheVariants.{E99}
use Rattle.qo_causes.specs.declared.hubs.Lane.TheVariants.{Session as to_session, Guest as guest}
use Rattle.qo_causes.specs.declared.inputs.Moment.{Moment}
use Rattle.qo_causes.specs.declared.inputs.What.{What}
use Rattle.qo_causes.specs.declared.inputs.What.TheVariants.{Open, Bytes, Guest}
use Rattle.qo_framing.specs.declared.items.Item.{Item}
use Rattle.qo_guest.specs.declared.answers.GuestAnswer.TheVariants.{NoMemory}
use Rattle.qo_commands.specs.Changes.{attempted}
use Rattle.qo_commands.specs.Commands.{empty, perform}
use Rattle.qo_commands.specs.Hearing.{heard}
use Rattle.qo_commands.specs.Lines.{lines_of, without_return}
use Rattle.qo_replies.specs.Replies.{error_reply, greeting, return_reply}
use Rattle.qo_replies.specs.declared.events.Event.{Event}
use Rattle.qo_requests.specs.declared.calls.Call.{Call}
use Rattle.qo_sessions.specs.Acts.{act}
use Rattle.qo_sessions.specs.declared.acts.SessionAct.{SessionAct}
use Rattle.qo_sessions.specs.declared.acts.SessionAct.TheVariants.{Answer, Negotiated, Do}
use Rattle.qo_machine.specs.Machine.{Made, Message, State, answer_line, answered, event_outs, fed_at, guest_told, items_at, line_done, made, mode_of, reply, step, with_board, with_line}
use Rattle.qo_machine.specs.Runs.{Turn, after, outs_at}

-- events, and then one message
abbrev pub EventsThen : Moment → State → Message → List Message → Type 0
EventsThen at s message outs = (events : List Event) × (outs ≡ event_outs at s events ++ message ∷ [])

-- the reply of what an item comes to, as it is defined
abbrev pub defined_reply : State → SessionAct → List ℕ
defined_reply s (Answer code id) = error_reply id code
defined_reply s (Negotiated id) = return_reply id empty
defined_reply s (Do command id) = reply id (perform s.board command).result

-- what an item of session n comes to was answered by exactly one reply: by the defined one, after events, and all is as it is defined; or it is a command, and
-- was answered by E99 alone, with its id, after an attempt that was cut or none
abbrev pub OneReply : Moment → ℕ → State → SessionAct → Made → Type 0
OneReply at n s what m =
    ((m ≡ made at n s what) × EventsThen at s (to_session n, defined_reply s what) m.outs)
    ⊎ ((command : Call) × (id : Option (List ℕ)) × (what ≡ Do command id) × (i : ℕ) × (joined : Bool)
    × (m ≡ answered (with_board s (attempted s.board command i joined)) n (error_reply id E99)))

abbrev pub RepliesOnce : Moment → ℕ → State → Item → Made → Type 0
RepliesOnce at n s item m = OneReply at n s (act (mode_of s n) item) m

-- a line of the guest was answered exactly once: as it is defined, after events, and all is as it is defined; or by `no memory` alone, and nothing changed
abbrev pub AnswersOnce : Moment → State → List ℕ → Made → Type 0
AnswersOnce at s line m =
    let o = heard s.board (without_return line) in
    ((m ≡ line_done at s o) × EventsThen at s (guest, answer_line o.answer) m.outs) ⊎ (m ≡ guest_told s NoMemory)

-- each of some things made what it had to, from the state that the one before it left, until the run had ended; and what they made is all that was sent
abbrev pub InTurn : {X : Type 0} → (State → X → Made → Type 0) → List X → State → List Message → State → Type 0
InTurn Makes [] s outs t = (outs ≡ []) × (t ≡ s)
InTurn Makes (x ∷ xs) s outs t =
    ((s.ended ≡ true) × (outs ≡ []) × (t ≡ s))
    ⊎ ((s.ended ≡ false) × (m : Made) × (more : List Message) × Makes s x m × (outs ≡ m.outs ++ more) × InTurn Makes xs m.state more t)

-- what an input completes was answered: a session's items, or the guest's lines. Any other input is answered by nothing; but an opened session is greeted.
abbrev pub IsAnsweredAt : State → Moment → What → List Message → State → Type 0
IsAnsweredAt s at (Bytes n bytes) outs t = InTurn (RepliesOnce at n) (items_at s n bytes) (fed_at s n bytes) outs t
IsAnsweredAt s at (Guest bytes) outs t =
    let l = lines_of s.guest_line bytes in
    InTurn (AnswersOnce at) l.lines (with_line s l.rest) outs t
IsAnsweredAt s at (Open n) outs t = (outs ≡ []) ⊎ (outs ≡ (to_session n, greeting) ∷ [])
IsAnsweredAt s at what outs t = outs ≡ []

-- so in a turn; after the end of the run nothing is sent
abbrev pub IsAnswered : State → Turn → Type 0
IsAnswered s t =
    ((s.ended ≡ true) × (outs_at s t ≡ []))
    ⊎ ((s.ended ≡ false) × IsAnsweredAt s t.input.at t.input.what (outs_at s t) (step s t.input t.choices).state)

-- so in each turn of a run
abbrev pub AreAnswered : State → List Turn → Type 0
AreAnswered s [] = ⊤
AreAnswered s (t ∷ ts) = IsAnswered s t × AreAnswered (after s t) ts

abbrev pub AnsweredInRuns : Type 0
AnsweredInRuns = (s : State) (turns : List Turn) → AreAnswered s turns
