-- Bytes of a session, and of the guest, may be cut anywhere.
use Rattle.std.proofs.Common.{◌≡◌, ℕ, zero, suc, nat_lt, Bool, true, false, if◌then◌else◌, ◌||◌, List, [], ◌∷◌, ◌++◌, refl, sym, ◌∙◌, ap, append_assoc, map, slice_set, slice_index_or}
use Rattle.std.proofs.lemmas.Bool.{true≢false}
use Rattle.std.proofs.lemmas.Grind.{flat_map-append}
use Rattle.std.specs.List.{flat_map}
use Rattle.qo_causes.specs.Hub.{line}
use Rattle.qo_causes.specs.Names.{Names}
use Rattle.qo_causes.specs.declared.hubs.Lane.TheVariants.{Session as to_session, Guest as guest}
use Rattle.qo_causes.specs.declared.inputs.Input.{Input}
use Rattle.qo_causes.specs.declared.inputs.Moment.{Moment}
use Rattle.qo_causes.specs.declared.inputs.What.{What}
use Rattle.qo_causes.specs.declared.inputs.What.TheVariants.{Bytes, Guest}
use Rattle.qo_framing.proofs.Steps.{cuts_anywhere}
use Rattle.qo_framing.specs.Cut.{Cut, Framing, cut}
use Rattle.qo_framing.specs.declared.items.Item.{Item}
use Rattle.qo_guest.specs.declared.answers.GuestAnswer.TheVariants.{NoMemory}
use Rattle.qo_commands.proofs.LineLemmas.{lines-cut}
use Rattle.qo_commands.specs.Hearing.{heard}
use Rattle.qo_commands.specs.Lines.{Lines, lines_of, without_return}
use Rattle.qo_model.specs.Board.{Board}
use Rattle.qo_replies.specs.Replies.{error_reply, return_reply}
use Rattle.qo_replies.specs.declared.events.Event.{Event}
use Rattle.qo_sessions.specs.Acts.{act}
use Rattle.qo_sessions.specs.Sessions.{Fed, closed, fed_in, fed_open, in_mode}
use Rattle.qo_sessions.specs.Sessions as sessions
use Rattle.qo_sessions.specs.declared.acts.SessionAct.{SessionAct}
use Rattle.qo_sessions.specs.declared.acts.SessionAct.TheVariants.{Answer, Negotiated, Do}
use Rattle.qo_sessions.specs.declared.modes.Mode.{Mode}
use Rattle.qo_sessions.specs.declared.modes.Mode.TheVariants.{Closed, Negotiating, Commanding}
use Rattle.qo_values.specs.declared.codes.Code.TheVariants.{E99}
use Rattle.qo_values.specs.declared.limits.TheConstants.{SESSIONS}
use Rattle.qo_machine.proofs.MachineLemmas.{after_twice, serve_on_by, step_ended, step_on, stopped_by, with_same}
use Rattle.qo_machine.proofs.RunLemmas.{lines_more, outs_more, state_more}
use Rattle.qo_commands.specs.Changes.{attempted}
use Rattle.qo_commands.specs.Commands.{empty, event_of, perform, without_events}
use Rattle.qo_machine.specs.Laws.{ChunksAreFree, CutAnywhere, Matches, in_one, in_two, quiet}
use Rattle.qo_machine.specs.Machine.{Choice, Made, Message, State, Stepped, answer_line, answered, preceded, after_command, by_item, by_line, defined, refused, event_outs, first, guest_told, is_commanding, item_step, line_step, made_by, mode_of, numbers_below, opening, others, reply, serve, serve_by, serve_lines, serve_unless, session_of, step, taken, those_commanding, event_messages, unchanged, with_board, with_line, with_session}
use Rattle.qo_machine.specs.Runs.{Turn, closed_where, outs_of, state_after, transcript, transcript_of}

-- Where the stream of one session stands.

-- a session in its mode, with its stream standing elsewhere
abbrev at_framing : Framing → sessions.State → sessions.State
at_framing f x = record { mode = x.mode; framing = f }

abbrev framed : List sessions.State → ℕ → Framing → List sessions.State
framed ss n f = slice_set ss n (at_framing f (slice_index_or ss n closed))

abbrev reframed : ℕ → Framing → State → State
reframed n f s = with_session s n (at_framing f (session_of s n))

-- the modes are as before
mode_kept : (ss : List sessions.State) (n m : ℕ) (f : Framing) → (slice_index_or (framed ss n f) m closed).mode ≡ (slice_index_or ss m closed).mode
mode_kept [] n m f = refl
mode_kept (s ∷ ss) zero zero f = refl
mode_kept (s ∷ ss) zero (suc m) f = refl
mode_kept (s ∷ ss) (suc n) zero f = refl
mode_kept (s ∷ ss) (suc n) (suc m) f = mode_kept ss n m f

-- the last framing counts
framed_twice : (ss : List sessions.State) (n : ℕ) (f g : Framing) → framed (framed ss n f) n g ≡ framed ss n g
framed_twice [] n f g = refl
framed_twice (s ∷ ss) zero f g = refl
framed_twice (s ∷ ss) (suc n) f g = ap (λ (rest : List sessions.State). s ∷ rest) (framed_twice ss n f g)

reframed_twice : (n : ℕ) (f g : Framing) (s : State) → reframed n g (reframed n f s) ≡ reframed n g s
reframed_twice n f g s =
    ap (λ (ss : List sessions.State). record { board = s.board; sessions = ss; guest_line = s.guest_line; ended = s.ended }) (framed_twice s.sessions n f g)

abbrev is_open : Mode → Bool
is_open Closed = false
is_open Negotiating = true
is_open Commanding = true

-- an open session has it
framing_there : (ss : List sessions.State) (n : ℕ) (f : Framing) → is_open (slice_index_or ss n closed).mode ≡ true
    → (slice_index_or (framed ss n f) n closed).framing ≡ f
framing_there [] n f h = absurd (true≢false (sym h))
framing_there (s ∷ ss) zero f h = refl
framing_there (s ∷ ss) (suc n) f h = framing_there ss n f h

-- a negotiation keeps it
negotiated_list : (ss : List sessions.State) (n : ℕ) (f : Framing)
    → slice_set (framed ss n f) n (in_mode Commanding (slice_index_or (framed ss n f) n closed))
    ≡ framed (slice_set ss n (in_mode Commanding (slice_index_or ss n closed))) n f
negotiated_list [] n f = refl
negotiated_list (s ∷ ss) zero f = refl
negotiated_list (s ∷ ss) (suc n) f = ap (λ (rest : List sessions.State). s ∷ rest) (negotiated_list ss n f)

abbrev negotiated : ℕ → State → State
negotiated n s = with_session s n (in_mode Commanding (session_of s n))

negotiated_same : (n : ℕ) (f : Framing) (s : State) → negotiated n (reframed n f s) ≡ reframed n f (negotiated n s)
negotiated_same n f s =
    ap (λ (ss : List sessions.State). record { board = s.board; sessions = ss; guest_line = s.guest_line; ended = s.ended }) (negotiated_list s.sessions n f)

-- Items do not look at it.

those_same : (ms : List ℕ) (n : ℕ) (f : Framing) (s : State) → those_commanding (reframed n f s) ms ≡ those_commanding s ms
those_same [] n f s = refl
those_same (m ∷ ms) n f s =
    ap (λ (mode : Mode). if is_commanding mode then m ∷ those_commanding (reframed n f s) ms else those_commanding (reframed n f s) ms)
    (mode_kept s.sessions n m f)
    ∙ ap (λ (rest : List ℕ). if is_commanding (mode_of s m) then m ∷ rest else rest) (those_same ms n f s)

events_same : (at : Moment) (n : ℕ) (f : Framing) (s : State) (es : List Event) → event_outs at (reframed n f s) es ≡ event_outs at s es
events_same at n f s es =
    ap (λ (ms : List ℕ). flat_map (λ (event : Event). event_messages event at ms) es) (those_same (numbers_below SESSIONS) n f s)

-- the one state after the end, and the other before it
abbrev keep : Bool → State → State → State
keep true s t = s
keep false s t = t

-- what is put into the state of the machine, until the run has ended
abbrev still_by : (State → State) → State → State
still_by put s = keep s.ended s (put s)

abbrev made_by_put : (State → State) → Made → Made
made_by_put put m = record { outs = m.outs; state = still_by put m.state }

abbrev step_by_put : (State → State) → Stepped → Stepped
step_by_put put r = record { outs = r.outs; state = still_by put r.state; rest = r.rest }

still_on_by : (put : State → State) (s : State) (e : Bool) → s.ended ≡ e → still_by put s ≡ keep e s (put s)
still_on_by put s e is = ap (λ (x : Bool). keep x s (put s)) is

-- a step does not look at it
abbrev Commutes : {X : Type 0} → (Choice → State → X → Made) → (State → State) → Type 0
Commutes {X = X} f put =
    (choice : Choice) (s : State) (x : X) → s.ended ≡ false → f choice (put s) x ≡ made_by_put put (f choice s x)

-- nor does it end the run
abbrev LeavesEnd : (State → State) → Type 0
LeavesEnd put = (s : State) → (put s).ended ≡ s.ended

-- the framing of a session
abbrev still : ℕ → Framing → State → State
still n f s = still_by (reframed n f) s

abbrev still_made : ℕ → Framing → Made → Made
still_made n f m = made_by_put (reframed n f) m

abbrev still_step : ℕ → Framing → Stepped → Stepped
still_step n f r = step_by_put (reframed n f) r

still_on : (n : ℕ) (f : Framing) (s : State) (e : Bool) → s.ended ≡ e → still n f s ≡ keep e s (reframed n f s)
still_on n f s e is = still_on_by (reframed n f) s e is

after_same : (e : Bool) (n : ℕ) (f : Framing) (s : State) (b : Board) → s.ended ≡ false
    → after_command e (with_board (reframed n f s) b) ≡ still n f (after_command e (with_board s b))
after_same true n f s b going = refl
after_same false n f s b going = sym (still_on n f (with_board s b) false going)

made_still : (choice : Choice) (at : Moment) (n : ℕ) (f : Framing) (s : State) (what : SessionAct) → s.ended ≡ false
    → made_by choice at n (reframed n f s) what ≡ still_made n f (made_by choice at n s what)
made_still (refused i joined) at n f s (Answer code id) going =
    ap (λ (t : State). answered t n (error_reply id code)) (sym (still_on n f s false going))
made_still (refused i joined) at n f s (Negotiated id) going =
    ap (λ (t : State). answered t n (return_reply id empty)) (negotiated_same n f s ∙ sym (still_on n f (negotiated n s) false going))
made_still (refused i joined) at n f s (Do command id) going =
    ap (λ (t : State). answered t n (error_reply id E99)) (sym (still_on n f (with_board s (attempted s.board command i joined)) false going))
made_still defined at n f s (Answer code id) going =
    ap (λ (t : State). answered t n (error_reply id code)) (sym (still_on n f s false going))
made_still defined at n f s (Negotiated id) going =
    ap (λ (t : State). answered t n (return_reply id empty)) (negotiated_same n f s ∙ sym (still_on n f (negotiated n s) false going))
made_still defined at n f s (Do command id) going =
    let d = perform s.board command in
    ap
    (λ (outs : List Message). record {
      outs = outs ++ (to_session n, reply id d.result) ∷ [];
      state = after_command d.ends (with_board (reframed n f s) d.board);
    })
    (events_same at n f s d.events)
    ∙ ap
    (λ (t : State). record { outs = event_outs at s d.events ++ (to_session n, reply id d.result) ∷ []; state = t })
    (after_same d.ends n f s d.board going)

item_still : (choice : Choice) (at : Moment) (n : ℕ) (f : Framing) (s : State) (item : Item) → s.ended ≡ false
    → item_step choice at n (reframed n f s) item ≡ still_made n f (item_step choice at n s item)
unfolding item_step
item_still choice at n f s item going =
    ap (λ (mode : Mode). made_by choice at n (reframed n f s) (act mode item)) (mode_kept s.sessions n n f) ∙ made_still choice
    at n f s (act (mode_of s n) item) going

-- after the end nothing is served, and the state is as it was
stopped_still : {X : Type 0} (f : Choice → State → X → Made) (put : State → State) (xs : List X) (s : State) (cs : List Choice) → s.ended ≡ true
    → step_by_put put (serve_by f xs s cs) ≡ unchanged s cs
stopped_still f put xs s cs over =
    ap (step_by_put put) (stopped_by f xs s cs over) ∙ ap (λ (t : State). unchanged t cs) (still_on_by put s true over)

from_still : {X : Type 0} (f : Choice → State → X → Made) (put : State → State) (xs : List X) (s : State) (cs : List Choice)
    → (s.ended ≡ false → serve_by f xs (put s) cs ≡ step_by_put put (serve_by f xs s cs))
    → serve_by f xs (still_by put s) cs ≡ step_by_put put (serve_by f xs s cs)
from_still f put xs s cs further = go s.ended refl
  where
    go : (e : Bool) → s.ended ≡ e → serve_by f xs (still_by put s) cs ≡ step_by_put put (serve_by f xs s cs)
    go true over =
        ap (λ (t : State). serve_by f xs t cs) (still_on_by put s true over) ∙ stopped_by f xs s cs over
        ∙ sym (stopped_still f put xs s cs over)
    go false going = ap (λ (t : State). serve_by f xs t cs) (still_on_by put s false going) ∙ further going

serve_still_by : {X : Type 0} (f : Choice → State → X → Made) (put : State → State) → LeavesEnd put → Commutes f put
    → (xs : List X) (s : State) (cs : List Choice) → s.ended ≡ false → serve_by f xs (put s) cs ≡ step_by_put put (serve_by f xs s cs)
serve_still_by f put same commutes [] s cs going = ap (λ (t : State). unchanged t cs) (sym (still_on_by put s false going))
serve_still_by f put same commutes (x ∷ xs) s cs going =
    let m = f (first cs) s x in
    serve_on_by f (put s) x xs cs (same s ∙ going)
    ∙ ap (λ (y : Made). preceded y.outs (serve_by f xs y.state (others cs))) (commutes (first cs) s x going)
    ∙ ap (preceded m.outs) (from_still f put xs m.state (others cs) (serve_still_by f put same commutes xs m.state (others cs)))
    ∙ ap (step_by_put put) (sym (serve_on_by f s x xs cs going))

serve_still : (items : List Item) (at : Moment) (n : ℕ) (f : Framing) (s : State) (cs : List Choice) → s.ended ≡ false
    → serve at n items (reframed n f s) cs ≡ still_step n f (serve at n items s cs)
serve_still items at n f s cs going =
    serve_still_by (by_item at n) (reframed n f) (λ t. refl) (λ choice t item h. item_still choice at n f t item h) items s cs going

-- Some, and then more.

abbrev then_serve : {X : Type 0} → (Choice → State → X → Made) → List X → Stepped → Stepped
then_serve f xs r = preceded r.outs (serve_by f xs r.state r.rest)

pub serve_more : {X : Type 0} (f : Choice → State → X → Made) (xs ys : List X) (s : State) (cs : List Choice)
    → serve_by f (xs ++ ys) s cs ≡ then_serve f ys (serve_by f xs s cs)
serve_more f [] ys s cs = refl
serve_more f (x ∷ xs) ys s cs =
    go s.ended refl (serve_more f xs ys (f (first cs) s x).state (others cs))
  where
    go : (e : Bool) → s.ended ≡ e
        → serve_by f (xs ++ ys) (f (first cs) s x).state (others cs) ≡ then_serve f ys (serve_by f xs (f (first cs) s x).state (others cs))
        → serve_by f ((x ∷ xs) ++ ys) s cs ≡ then_serve f ys (serve_by f (x ∷ xs) s cs)
    go true over further =
        stopped_by f ((x ∷ xs) ++ ys) s cs over
        ∙ sym (ap (then_serve f ys) (stopped_by f (x ∷ xs) s cs over) ∙ ap (preceded []) (stopped_by f ys s cs over))
    go false going further =
        let m = f (first cs) s x in
        let r = serve_by f xs m.state (others cs) in
        serve_on_by f s x (xs ++ ys) cs going ∙ ap (preceded m.outs) further ∙ after_twice m.outs r.outs (serve_by f ys r.state r.rest)
        ∙ ap (then_serve f ys) (sym (serve_on_by f s x xs cs going))

-- with other choices left
abbrev with_rest : List Choice → Stepped → Stepped
with_rest ds r = record { outs = r.outs; state = r.state; rest = ds }

-- the choices that are used: with these alone it comes to the same, and all others are left
abbrev ServeUses : {X : Type 0} → (Choice → State → X → Made) → List X → State → List Choice → Type 0
ServeUses f xs s cs =
    (us : List Choice) × ((ds : List Choice) → serve_by f xs s (us ++ ds) ≡ with_rest ds (serve_by f xs s cs))

serve_uses : {X : Type 0} (f : Choice → State → X → Made) (xs : List X) (s : State) (cs : List Choice) → ServeUses f xs s cs
serve_uses f [] s cs = ([], λ ds. refl)
serve_uses f (x ∷ xs) s cs =
    go s.ended refl (serve_uses f xs (f (first cs) s x).state (others cs))
  where
    go : (e : Bool) → s.ended ≡ e → ServeUses f xs (f (first cs) s x).state (others cs) → ServeUses f (x ∷ xs) s cs
    go true over further =
        ([], λ ds. stopped_by f (x ∷ xs) s ds over ∙ ap (with_rest ds) (sym (stopped_by f (x ∷ xs) s cs over)))
    go false going further = (
      first cs ∷ further.0,
      λ ds.
          serve_on_by f s x xs (first cs ∷ further.0 ++ ds) going ∙ ap (preceded (f (first cs) s x).outs) (further.1 ds)
          ∙ ap (with_rest ds) (sym (serve_on_by f s x xs cs going)),
    )

-- A session stays open until the run has ended.

abbrev lives : ℕ → State → Bool
lives n s = s.ended || is_open (mode_of s n)

or_more : (e a b : Bool) → (a ≡ true → b ≡ true) → (e || a) ≡ true → (e || b) ≡ true
or_more true a b f h = refl
or_more false a b f h = f h

negotiated_open : (ss : List sessions.State) (n : ℕ) → is_open (slice_index_or ss n closed).mode ≡ true
    → is_open (slice_index_or (slice_set ss n (in_mode Commanding (slice_index_or ss n closed))) n closed).mode ≡ true
negotiated_open [] n h = h
negotiated_open (s ∷ ss) zero h = refl
negotiated_open (s ∷ ss) (suc n) h = negotiated_open ss n h

command_lives : (e : Bool) (n : ℕ) (s : State) (b : Board) → lives n s ≡ true → lives n (after_command e (with_board s b)) ≡ true
command_lives true n s b h = refl
command_lives false n s b h = h

made_lives : (choice : Choice) (at : Moment) (n : ℕ) (s : State) (what : SessionAct) → lives n s ≡ true → lives n (made_by choice at n s what).state ≡ true
made_lives (refused i joined) at n s (Answer code id) h = h
made_lives (refused i joined) at n s (Negotiated id) h =
    or_more s.ended (is_open (mode_of s n)) (is_open (mode_of (negotiated n s) n)) (negotiated_open s.sessions n) h
made_lives (refused i joined) at n s (Do command id) h = h
made_lives defined at n s (Answer code id) h = h
made_lives defined at n s (Negotiated id) h =
    or_more s.ended (is_open (mode_of s n)) (is_open (mode_of (negotiated n s) n)) (negotiated_open s.sessions n) h
made_lives defined at n s (Do command id) h =
    command_lives (perform s.board command).ends n s (perform s.board command).board h

item_lives : (choice : Choice) (at : Moment) (n : ℕ) (s : State) (item : Item) → lives n s ≡ true → lives n (item_step choice at n s item).state ≡ true
unfolding item_step
item_lives choice at n s item h = made_lives choice at n s (act (mode_of s n) item) h

unless_lives : (e : Bool) (n : ℕ) (a b : Stepped) → lives n a.state ≡ true → lives n b.state ≡ true → lives n (serve_unless e a b).state ≡ true
unless_lives true n a b p q = p
unless_lives false n a b p q = q

serve_lives : (items : List Item) (at : Moment) (n : ℕ) (s : State) (cs : List Choice) → lives n s ≡ true → lives n (serve at n items s cs).state ≡ true
serve_lives [] at n s cs h = h
serve_lives (i ∷ is) at n s cs h =
    let m = item_step (first cs) at n s i in
    unless_lives s.ended n (unchanged s cs) (preceded m.outs (serve at n is m.state (others cs))) h
    (serve_lives is at n m.state (others cs) (item_lives (first cs) at n s i h))

-- One step.

abbrev input : Moment → What → Input
input at what = record { at = at; what = what }

abbrev then_step : Input → Stepped → Stepped
then_step i r = preceded r.outs (step r.state i r.rest)

-- a closed session takes no bytes, and an open one all
fed_none : (mode : Mode) (x : sessions.State) (bytes : List ℕ) → is_open mode ≡ false → fed_in mode x bytes ≡ record { items = []; session = x }
fed_none Closed x bytes h = refl
fed_none Negotiating x bytes h = absurd (true≢false h)
fed_none Commanding x bytes h = absurd (true≢false h)

fed_all : (mode : Mode) (x : sessions.State) (bytes : List ℕ) → is_open mode ≡ true → fed_in mode x bytes ≡ fed_open x bytes
fed_all Closed x bytes h = absurd (true≢false (sym h))
fed_all Negotiating x bytes h = refl
fed_all Commanding x bytes h = refl

step_beyond : (s : State) (at : Moment) (n : ℕ) (bytes : List ℕ) (cs : List Choice) → s.ended ≡ false → nat_lt n SESSIONS ≡ false
    → step s (input at (Bytes n bytes)) cs ≡ unchanged s cs
step_beyond s at n bytes cs going beyond =
    step_on s (input at (Bytes n bytes)) (Bytes n bytes) cs going refl ∙ ap (λ (t : Bool). if t then taken at s n bytes cs else unchanged s cs) beyond

step_taken : (s : State) (at : Moment) (n : ℕ) (bytes : List ℕ) (cs : List Choice) → s.ended ≡ false → nat_lt n SESSIONS ≡ true
    → step s (input at (Bytes n bytes)) cs ≡ taken at s n bytes cs
step_taken s at n bytes cs going below =
    step_on s (input at (Bytes n bytes)) (Bytes n bytes) cs going refl ∙ ap (λ (t : Bool). if t then taken at s n bytes cs else unchanged s cs) below

step_closed : (s : State) (at : Moment) (n : ℕ) (bytes : List ℕ) (cs : List Choice) → s.ended ≡ false → nat_lt n SESSIONS ≡ true → is_open (mode_of s n) ≡ false
    → step s (input at (Bytes n bytes)) cs ≡ unchanged s cs
step_closed s at n bytes cs going below shut =
    step_taken s at n bytes cs going below
    ∙ ap (λ (d : Fed). serve at n d.items (with_session s n d.session) cs) (fed_none (mode_of s n) (session_of s n) bytes shut)
    ∙ ap (λ (t : State). unchanged t cs) (with_same s n)

step_open : (s : State) (at : Moment) (n : ℕ) (bytes : List ℕ) (cs : List Choice) → s.ended ≡ false → nat_lt n SESSIONS ≡ true → is_open (mode_of s n) ≡ true
    → step s (input at (Bytes n bytes)) cs ≡ serve at n (cut (session_of s n).framing bytes).items (reframed n (cut (session_of s n).framing bytes).state s) cs
step_open s at n bytes cs going below takes =
    step_taken s at n bytes cs going below
    ∙ ap (λ (d : Fed). serve at n d.items (with_session s n d.session) cs) (fed_all (mode_of s n) (session_of s n) bytes takes)

-- the items of the first of two pieces are served from the state before them, and of the second from there
step_still : (s : State) (at : Moment) (n : ℕ) (f : Framing) (bytes : List ℕ) (cs : List Choice) → nat_lt n SESSIONS ≡ true → lives n s ≡ true
    → step (still n f s) (input at (Bytes n bytes)) cs ≡ still_step n (cut f bytes).state (serve at n (cut f bytes).items s cs)
step_still s at n f bytes cs below h = go s.ended refl h
  where
    go : (e : Bool) → s.ended ≡ e → (e || is_open (mode_of s n)) ≡ true
        → step (still n f s) (input at (Bytes n bytes)) cs ≡ still_step n (cut f bytes).state (serve at n (cut f bytes).items s cs)
    go true over takes =
        ap (λ (t : State). step t (input at (Bytes n bytes)) cs) (still_on n f s true over) ∙ step_ended s (input at (Bytes n bytes)) cs over
        ∙ sym (stopped_still (by_item at n) (reframed n (cut f bytes).state) (cut f bytes).items s cs over)
    go false going takes =
        ap (λ (t : State). step t (input at (Bytes n bytes)) cs) (still_on n f s false going)
        ∙ step_open (reframed n f s) at n bytes cs going below (ap is_open (mode_kept s.sessions n n f) ∙ takes)
        ∙ ap (λ (g : Framing). serve at n (cut g bytes).items (reframed n (cut g bytes).state (reframed n f s)) cs) (framing_there s.sessions n f takes)
        ∙ ap (λ (t : State). serve at n (cut f bytes).items t cs) (reframed_twice n f (cut f bytes).state s)
        ∙ serve_still (cut f bytes).items at n (cut f bytes).state s cs going

-- with these choices a piece comes to what its two parts come to, one after the other
abbrev InTwo : (List ℕ → What) → State → Moment → List ℕ → List ℕ → List Choice → Type 0
InTwo piece s at a b cs =
    step s (input at (piece (a ++ b))) cs ≡ then_step (input at (piece b)) (step s (input at (piece a)) cs)

-- bytes come as their first piece and then the second, where each of these changes nothing
nothing_two : (s : State) (i j k : Input) (cs : List Choice) → step s i cs ≡ unchanged s cs → step s j cs ≡ unchanged s cs → step s k cs ≡ unchanged s cs
    → step s i cs ≡ then_step k (step s j cs)
nothing_two s i j k cs p q r = p ∙ sym (ap (then_step k) q ∙ ap (preceded []) r)

-- and where the session is open
open_two : (s : State) (at : Moment) (n : ℕ) (a b : List ℕ) (cs : List Choice) → s.ended ≡ false → nat_lt n SESSIONS ≡ true → is_open (mode_of s n) ≡ true
    → InTwo (Bytes n) s at a b cs
open_two s at n a b cs going below takes =
    let f = (session_of s n).framing in
    let c = cut f a in
    let d = cut c.state b in
    let r = serve at n c.items s cs in
    let here : lives n s ≡ true = ap (λ (e : Bool). e || is_open (mode_of s n)) going ∙ takes in
    step_open s at n (a ++ b) cs going below takes
    ∙ ap (λ (x : Cut). serve at n x.items (reframed n x.state s) cs) (cuts_anywhere f a b)
    ∙ serve_still (c.items ++ d.items) at n d.state s cs going
    ∙ ap (still_step n d.state) (serve_more (by_item at n) c.items d.items s cs)
    ∙ ap (preceded r.outs) (sym (step_still r.state at n c.state b r.rest below (serve_lives c.items at n s cs here)))
    ∙ ap (then_step (input at (Bytes n b))) (sym (step_open s at n a cs going below takes ∙ serve_still c.items at n c.state s cs going))

bytes_two : (n : ℕ) (s : State) (at : Moment) (a b : List ℕ) (cs : List Choice) → InTwo (Bytes n) s at a b cs
bytes_two n s at a b cs = by_end s.ended refl
  where
    by_mode : (t : Bool) → s.ended ≡ false → nat_lt n SESSIONS ≡ true → is_open (mode_of s n) ≡ t → InTwo (Bytes n) s at a b cs
    by_mode true going below takes = open_two s at n a b cs going below takes
    by_mode false going below shut =
        nothing_two s _ _ _ cs (step_closed s at n (a ++ b) cs going below shut) (step_closed s at n a cs going below shut)
        (step_closed s at n b cs going below shut)

    by_number : (t : Bool) → s.ended ≡ false → nat_lt n SESSIONS ≡ t → InTwo (Bytes n) s at a b cs
    by_number true going below = by_mode (is_open (mode_of s n)) going below refl
    by_number false going beyond =
        nothing_two s _ _ _ cs (step_beyond s at n (a ++ b) cs going beyond) (step_beyond s at n a cs going beyond) (step_beyond s at n b cs going beyond)

    by_end : (e : Bool) → s.ended ≡ e → InTwo (Bytes n) s at a b cs
    by_end true over = nothing_two s _ _ _ cs (step_ended s _ cs over) (step_ended s _ cs over) (step_ended s _ cs over)
    by_end false going = by_number (nat_lt n SESSIONS) going refl

-- whatever the choices, an input comes to some items served from some state
abbrev ServesSome : State → Moment → ℕ → Input → Type 0
ServesSome s at n i = (items : List Item) × (t : State) × ((cs : List Choice) → step s i cs ≡ serve at n items t cs)

bytes_serve : (n : ℕ) (s : State) (at : Moment) (bytes : List ℕ) → ServesSome s at n (input at (Bytes n bytes))
bytes_serve n s at bytes = by_end s.ended refl
  where
    by_mode : (t : Bool) → s.ended ≡ false → nat_lt n SESSIONS ≡ true → is_open (mode_of s n) ≡ t → ServesSome s at n (input at (Bytes n bytes))
    by_mode true going below takes =
        ((cut (session_of s n).framing bytes).items, reframed n (cut (session_of s n).framing bytes).state s, λ cs. step_open s at n bytes cs going below takes)
    by_mode false going below shut = ([], s, λ cs. step_closed s at n bytes cs going below shut)

    by_number : (t : Bool) → s.ended ≡ false → nat_lt n SESSIONS ≡ t → ServesSome s at n (input at (Bytes n bytes))
    by_number true going below = by_mode (is_open (mode_of s n)) going below refl
    by_number false going beyond = ([], s, λ cs. step_beyond s at n bytes cs going beyond)

    by_end : (e : Bool) → s.ended ≡ e → ServesSome s at n (input at (Bytes n bytes))
    by_end true over = ([], s, λ cs. step_ended s (input at (Bytes n bytes)) cs over)
    by_end false going = by_number (nat_lt n SESSIONS) going refl

-- the choices that a step uses
abbrev Uses : State → Input → List Choice → Type 0
Uses s i cs = (us : List Choice) × ((ds : List Choice) → step s i (us ++ ds) ≡ with_rest ds (step s i cs))

bytes_uses : (n : ℕ) (s : State) (at : Moment) (bytes : List ℕ) (cs : List Choice) → Uses s (input at (Bytes n bytes)) cs
bytes_uses n s at bytes cs =
    let p = bytes_serve n s at bytes in
    let q = serve_uses (by_item at n) p.0 p.1 cs in
    (q.0, λ ds. p.2 (q.0 ++ ds) ∙ q.1 ds ∙ ap (with_rest ds) (sym (p.2 cs)))

-- The guest.

-- another front of its unfinished line
abbrev lined : List ℕ → State → State
lined line s = with_line s line

answered_still : (e : Bool) (line : List ℕ) (s : State) (b : Board) → s.ended ≡ false
    → after_command e (with_board (lined line s) b) ≡ still_by (lined line) (after_command e (with_board s b))
answered_still true line s b going = refl
answered_still false line s b going = sym (still_on_by (lined line) (with_board s b) false going)

-- its lines do not look at it
line_still : (at : Moment) (line : List ℕ) → Commutes (by_line at) (lined line)
unfolding line_step
line_still at line (refused i joined) s x going =
    ap (λ (t : State). guest_told t NoMemory) (sym (still_on_by (lined line) s false going))
line_still at line defined s x going =
    let o = heard s.board (without_return x) in
    ap
    (λ (t : State). record { outs = event_outs at s (map event_of o.board.events ++ o.events) ++ (guest, answer_line o.answer) ∷ []; state = t })
    (answered_still o.ends line s (without_events o.board) going)

lines_still : (at : Moment) (line : List ℕ) (xs : List (List ℕ)) (s : State) (cs : List Choice) → s.ended ≡ false
    → serve_lines at xs (lined line s) cs ≡ step_by_put (lined line) (serve_lines at xs s cs)
lines_still at line xs s cs going =
    serve_still_by (by_line at) (lined line) (λ t. refl) (λ choice t x h. line_still at line choice t x h) xs s cs going

guest_on : (s : State) (at : Moment) (bytes : List ℕ) (cs : List Choice) → s.ended ≡ false
    → step s (input at (Guest bytes)) cs ≡ serve_lines at (lines_of s.guest_line bytes).lines (lined (lines_of s.guest_line bytes).rest s) cs
guest_on s at bytes cs going = step_on s (input at (Guest bytes)) (Guest bytes) cs going refl

-- the lines of the first of two pieces are served from the state before them, and of the second from there
guest_still : (s : State) (at : Moment) (line bytes : List ℕ) (cs : List Choice)
    → step (still_by (lined line) s) (input at (Guest bytes)) cs
    ≡ step_by_put (lined (lines_of line bytes).rest) (serve_lines at (lines_of line bytes).lines s cs)
guest_still s at line bytes cs = go s.ended refl
  where
    go : (e : Bool) → s.ended ≡ e
        → step (still_by (lined line) s) (input at (Guest bytes)) cs
        ≡ step_by_put (lined (lines_of line bytes).rest) (serve_lines at (lines_of line bytes).lines s cs)
    go true over =
        ap (λ (t : State). step t (input at (Guest bytes)) cs) (still_on_by (lined line) s true over) ∙ step_ended s (input at (Guest bytes)) cs over
        ∙ sym (stopped_still (by_line at) (lined (lines_of line bytes).rest) (lines_of line bytes).lines s cs over)
    go false going =
        ap (λ (t : State). step t (input at (Guest bytes)) cs) (still_on_by (lined line) s false going)
        ∙ guest_on (lined line s) at bytes cs going
        ∙ lines_still at (lines_of line bytes).rest (lines_of line bytes).lines s cs going

going_two : (s : State) (at : Moment) (a b : List ℕ) (cs : List Choice) → s.ended ≡ false → InTwo Guest s at a b cs
going_two s at a b cs going =
    let c = lines_of s.guest_line a in
    let d = lines_of c.rest b in
    let r = serve_lines at c.lines s cs in
    guest_on s at (a ++ b) cs going
    ∙ ap (λ (l : Lines). serve_lines at l.lines (lined l.rest s) cs) (lines-cut s.guest_line a b)
    ∙ lines_still at d.rest (c.lines ++ d.lines) s cs going
    ∙ ap (step_by_put (lined d.rest)) (serve_more (by_line at) c.lines d.lines s cs)
    ∙ ap (preceded r.outs) (sym (guest_still r.state at c.rest b r.rest))
    ∙ ap (then_step (input at (Guest b))) (sym (guest_on s at a cs going ∙ lines_still at c.rest c.lines s cs going))

guest_two : (s : State) (at : Moment) (a b : List ℕ) (cs : List Choice) → InTwo Guest s at a b cs
guest_two s at a b cs = by_end s.ended refl
  where
    by_end : (e : Bool) → s.ended ≡ e → InTwo Guest s at a b cs
    by_end true over = nothing_two s _ _ _ cs (step_ended s _ cs over) (step_ended s _ cs over) (step_ended s _ cs over)
    by_end false going = going_two s at a b cs going

guest_uses : (s : State) (at : Moment) (bytes : List ℕ) (cs : List Choice) → Uses s (input at (Guest bytes)) cs
guest_uses s at bytes cs = by_end s.ended refl
  where
    by_end : (e : Bool) → s.ended ≡ e → Uses s (input at (Guest bytes)) cs
    by_end true over = ([], λ ds. step_ended s _ ds over ∙ ap (with_rest ds) (sym (step_ended s _ cs over)))
    by_end false going =
        let l = lines_of s.guest_line bytes in
        let q = serve_uses (by_line at) l.lines (lined l.rest s) cs in
        (q.0, λ ds. guest_on s at bytes (q.0 ++ ds) going ∙ q.1 ds ∙ ap (with_rest ds) (sym (guest_on s at bytes cs going)))

-- Runs.

-- one step, by its choices, comes to what two come to
abbrev AsTwo : (List ℕ → What) → State → Moment → List ℕ → List ℕ → List Choice → List Choice → List Choice → Type 0
AsTwo piece s at a b choices one two =
    step s (input at (piece (a ++ b))) choices ≡ preceded (step s (input at (piece a)) one).outs
    (step (step s (input at (piece a)) one).state (input at (piece b)) two)

outs_same : (piece : List ℕ → What) (s : State) (names : Names) (at : Moment) (a b : List ℕ) (choices one two : List Choice) (later : List Turn)
    → AsTwo piece s at a b choices one two
    → outs_of s (quiet names at (piece (a ++ b)) choices ∷ later) ≡ outs_of s (quiet names at (piece a) one ∷ quiet names at (piece b) two ∷ later)
unfolding closed_where
outs_same piece s names at a b choices one two later h =
    let r = step s (input at (piece a)) one in
    let q = step r.state (input at (piece b)) two in
    ap (λ (x : Stepped). x.outs ++ outs_of x.state later) h ∙ append_assoc r.outs q.outs (outs_of q.state later)

state_same : (piece : List ℕ → What) (s : State) (names : Names) (at : Moment) (a b : List ℕ) (choices one two : List Choice) (later : List Turn)
    → AsTwo piece s at a b choices one two
    → state_after s (quiet names at (piece (a ++ b)) choices ∷ later) ≡ state_after s (quiet names at (piece a) one ∷ quiet names at (piece b) two ∷ later)
unfolding closed_where
state_same piece s names at a b choices one two later h = ap (λ (x : Stepped). state_after x.state later) h

lines_same : (piece : List ℕ → What) (s : State) (names : Names) (at : Moment) (a b : List ℕ) (choices one two : List Choice) (later : List Turn)
    → AsTwo piece s at a b choices one two
    → transcript_of s (quiet names at (piece (a ++ b)) choices ∷ later) ≡ transcript_of s (quiet names at (piece a) one ∷ quiet names at (piece b) two ∷ later)
unfolding closed_where
lines_same piece s names at a b choices one two later h =
    let r = step s (input at (piece a)) one in
    let q = step r.state (input at (piece b)) two in
    ap (λ (x : Stepped). transcript names x.outs ++ transcript_of x.state later) h
    ∙ ap (λ (l : List ℕ). l ++ transcript_of q.state later) (flat_map-append (λ (m : Message). line names m.0 m.1) r.outs q.outs)
    ∙ append_assoc (transcript names r.outs) (transcript names q.outs) (transcript_of q.state later)

run_same : (piece : List ℕ → What) (before later : List Turn) (names : Names) (at : Moment) (a b : List ℕ) (choices one two : List Choice)
    → AsTwo piece (state_after opening before) at a b choices one two
    → Matches (in_one piece before later names at (a ++ b) choices) (in_two piece before later names at a b one two)
run_same piece before later names at a b choices one two h =
    let s = state_after opening before in
    let whole = quiet names at (piece (a ++ b)) choices ∷ later in
    let parts = quiet names at (piece a) one ∷ quiet names at (piece b) two ∷ later in
    record {
      outs =
          outs_more before whole opening ∙ ap (λ (outs : List Message). outs_of opening before ++ outs) (outs_same piece s names at a b choices one two later h)
          ∙ sym (outs_more before parts opening);
      lines =
          lines_more before whole opening
          ∙ ap (λ (lines : List ℕ). transcript_of opening before ++ lines) (lines_same piece s names at a b choices one two later h)
          ∙ sym (lines_more before parts opening);
      state = state_more before whole opening ∙ state_same piece s names at a b choices one two later h ∙ sym (state_more before parts opening);
    }

cut_anywhere : (piece : List ℕ → What) → ((s : State) (at : Moment) (a b : List ℕ) (cs : List Choice) → InTwo piece s at a b cs)
    → ((s : State) (at : Moment) (bytes : List ℕ) (cs : List Choice) → Uses s (input at (piece bytes)) cs) → CutAnywhere piece
cut_anywhere piece two uses before later names at a b = (
  λ cs.
      let s = state_after opening before in
      let left = (step s (input at (piece a)) cs).rest in
      (cs, left, run_same piece before later names at a b cs cs left (two s at a b cs)),
  λ one other.
      let s = state_after opening before in
      let u = uses s at a one in (
        u.0 ++ other,
        run_same piece before later names at a b (u.0 ++ other) one other
            (two s at a b (u.0 ++ other) ∙ ap (then_step (input at (piece b))) (u.1 other)),
      ),
)

pub chunks_are_free : ChunksAreFree
chunks_are_free =
    (λ n. cut_anywhere (Bytes n) (bytes_two n) (bytes_uses n), cut_anywhere Guest guest_two guest_uses)
