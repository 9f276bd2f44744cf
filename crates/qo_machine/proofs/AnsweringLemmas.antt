-- Each item and each line is answered exactly once, by whatever choices.
use Rattle.std.proofs.Common.{◌≡◌, refl, ap, sym, ℕ, nat_lt, Bool, true, false, if◌then◌else◌, List, [], ◌∷◌, ◌++◌, map, subst, inl, inr}
use Rattle.qo_values.specs.declared.limits.TheConstants.{SESSIONS}
use Rattle.qo_causes.specs.declared.inputs.Moment.{Moment}
use Rattle.qo_causes.specs.declared.inputs.What.{What}
use Rattle.qo_causes.specs.declared.inputs.What.TheVariants.{Open, Bytes, Shut, Guest, Step, End}
use Rattle.qo_commands.specs.Commands.{event_of, perform}
use Rattle.qo_framing.specs.declared.items.Item.{Item}
use Rattle.qo_commands.specs.Hearing.{Outcome, heard}
use Rattle.qo_commands.specs.Lines.{lines_of, without_return}
use Rattle.qo_sessions.specs.Acts.{act}
use Rattle.qo_sessions.specs.Sessions.{closed, fed}
use Rattle.qo_sessions.specs.declared.acts.SessionAct.{SessionAct}
use Rattle.qo_sessions.specs.declared.acts.SessionAct.TheVariants.{Answer, Negotiated, Do}
use Rattle.qo_sessions.specs.declared.modes.Mode.{Mode}
use Rattle.qo_sessions.specs.declared.modes.Mode.TheVariants.{Closed, Negotiating, Commanding}
use Rattle.qo_machine.proofs.MachineLemmas.{step_ended, step_on}
use Rattle.qo_machine.specs.Answering.{AnsweredInRuns, AnswersOnce, InTurn, IsAnswered, IsAnsweredAt, OneReply, RepliesOnce}
use Rattle.qo_machine.specs.Machine.{Choice, Made, State, Stepped, by_item, by_line, defined, first, input_step, item_step, line_step, made_by, mode_of, opened, others, preceded, refused, serve_by, serve_unless, session_of, taken, unchanged, with_line, with_session}
use Rattle.qo_machine.specs.Runs.{Turn, after}

-- what one item comes to, and one line
one_reply : (choice : Choice) (at : Moment) (n : ℕ) (s : State) (what : SessionAct) → OneReply at n s what (made_by choice at n s what)
one_reply (refused i joined) at n s (Answer code id) = inl (refl, ([], refl))
one_reply (refused i joined) at n s (Negotiated id) = inl (refl, ([], refl))
one_reply (refused i joined) at n s (Do command id) = inr (command, id, refl, i, joined, refl)
one_reply defined at n s (Answer code id) = inl (refl, ([], refl))
one_reply defined at n s (Negotiated id) = inl (refl, ([], refl))
one_reply defined at n s (Do command id) = inl (refl, ((perform s.board command).events, refl))

replies_once : (choice : Choice) (at : Moment) (n : ℕ) (s : State) (item : Item) → RepliesOnce at n s item (item_step choice at n s item)
unfolding item_step
replies_once choice at n s item = one_reply choice at n s (act (mode_of s n) item)

answers_once : (choice : Choice) (at : Moment) (s : State) (line : List ℕ) → AnswersOnce at s line (line_step choice at s line)
unfolding line_step
answers_once (refused i joined) at s line = inr refl
answers_once defined at s line =
    let o : Outcome = heard s.board (without_return line) in
    inl (refl, (map event_of o.board.events ++ o.events, refl))

-- things in turn
in_turn : {X : Type 0} (Makes : State → X → Made → Type 0) (f : Choice → State → X → Made)
    → ((choice : Choice) (s : State) (x : X) → Makes s x (f choice s x)) → (xs : List X) (s : State) (choices : List Choice)
    → InTurn Makes xs s (serve_by f xs s choices).outs (serve_by f xs s choices).state
in_turn Makes f each [] s choices = (refl, refl)
in_turn {X = X} Makes f each (x ∷ xs) s choices = go s.ended refl (in_turn Makes f each xs m.state (others choices))
  where
    m : Made
    m = f (first choices) s x

    rest : Stepped
    rest = serve_by f xs m.state (others choices)

    all : Bool → Stepped
    all e = serve_unless e (unchanged s choices) (preceded m.outs rest)

    go : (e : Bool) → s.ended ≡ e → InTurn Makes xs m.state rest.outs rest.state
        → InTurn Makes (x ∷ xs) s (serve_by f (x ∷ xs) s choices).outs (serve_by f (x ∷ xs) s choices).state
    go true is more = inl (is, ap (λ (e : Bool). (all e).outs) is, ap (λ (e : Bool). (all e).state) is)
    go false is more =
        subst (λ (r : Stepped). InTurn Makes (x ∷ xs) s r.outs r.state) (sym (ap all is))
        (inr (is, m, rest.outs, each (first choices) s x, refl, more))

-- an input
bytes_answered : (s : State) (at : Moment) (n : ℕ) (bytes : List ℕ) (choices : List Choice)
    → IsAnsweredAt s at (Bytes n bytes) (input_step s at (Bytes n bytes) choices).outs (input_step s at (Bytes n bytes) choices).state
bytes_answered s at n bytes choices = go (nat_lt n SESSIONS)
  where
    served : Bool → Stepped
    served t = if t then taken at s n bytes choices else unchanged s choices

    go : (t : Bool) → InTurn (RepliesOnce at n) (if t then (fed (session_of s n) bytes).items else [])
        (if t then with_session s n (fed (session_of s n) bytes).session else s) (served t).outs (served t).state
    go true =
        in_turn (RepliesOnce at n) (by_item at n) (λ choice u item. replies_once choice at n u item) (fed (session_of s n) bytes).items
        (with_session s n (fed (session_of s n) bytes).session) choices
    go false = (refl, refl)

open_answered : (s : State) (at : Moment) (n : ℕ) (choices : List Choice)
    → IsAnsweredAt s at (Open n) (input_step s at (Open n) choices).outs (input_step s at (Open n) choices).state
open_answered s at n choices = by_number (nat_lt n SESSIONS)
  where
    Greets : Stepped → Type 0
    Greets r = IsAnsweredAt s at (Open n) r.outs r.state

    by_mode : (mode : Mode) → Greets (opened s n mode choices)
    by_mode Closed = inr refl
    by_mode Negotiating = inl refl
    by_mode Commanding = inl refl

    by_number : (t : Bool) → Greets (if t then opened s n (mode_of s n) choices else unchanged s choices)
    by_number true = by_mode (mode_of s n)
    by_number false = inl refl

shut_answered : (s : State) (at : Moment) (n : ℕ) (choices : List Choice) → (input_step s at (Shut n) choices).outs ≡ []
shut_answered s at n choices = by_number (nat_lt n SESSIONS)
  where
    by_number : (t : Bool) → (if t then unchanged (with_session s n closed) choices else unchanged s choices).outs ≡ []
    by_number true = refl
    by_number false = refl

input_answered : (s : State) (at : Moment) (what : What) (choices : List Choice)
    → IsAnsweredAt s at what (input_step s at what choices).outs (input_step s at what choices).state
input_answered s at (Open n) choices = open_answered s at n choices
input_answered s at (Bytes n bytes) choices = bytes_answered s at n bytes choices
input_answered s at (Shut n) choices = shut_answered s at n choices
input_answered s at (Guest bytes) choices =
    in_turn (AnswersOnce at) (by_line at) (λ choice u line. answers_once choice at u line) (lines_of s.guest_line bytes).lines
    (with_line s (lines_of s.guest_line bytes).rest) choices
input_answered s at (Step ns) choices = refl
input_answered s at End choices = refl

-- a turn
turn_answered : (s : State) (t : Turn) → IsAnswered s t
turn_answered s t = go s.ended refl
  where
    go : (e : Bool) → s.ended ≡ e → IsAnswered s t
    go true is = inl (is, ap (λ (r : Stepped). r.outs) (step_ended s t.input t.choices is))
    go false is =
        inr (
          is,
          subst (λ (r : Stepped). IsAnsweredAt s t.input.at t.input.what r.outs r.state) (sym (step_on s t.input t.input.what t.choices is refl))
              (input_answered s t.input.at t.input.what t.choices),
        )

pub answered_runs : AnsweredInRuns
answered_runs s [] = tt
answered_runs s (t ∷ ts) = (turn_answered s t, answered_runs (after s t) ts)
