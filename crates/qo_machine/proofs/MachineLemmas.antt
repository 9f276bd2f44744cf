-- One step of the machine.
use Rattle.std.proofs.lemmas.Result.{IfOk-weaker}
use Rattle.std.proofs.Common.{◌≡◌, ◌<◌, ◌+◌, ℕ, zero, suc, Bool, true, false, List, [], ◌∷◌, ◌++◌, length, map, option_to_list, refl, sym, subst, ◌∙◌, ap, append_assoc, Option, Result, inl, inr, IfOk, nat_lt, ◌≤◌, replicate, arith, slice_set, slice_index_or, take}
use Rattle.std.proofs.lemmas.Bool.{lt-ltb, ltb-true}
use Rattle.std.proofs.lemmas.List.Elements.{filter-append}
use Rattle.std.proofs.lemmas.Grind.{flat_map-append}
use Rattle.std.proofs.lemmas.List.{append-nil, map-append, take_more}
use Rattle.qo_causes.specs.declared.hubs.Lane.TheVariants.{Session as to_session}
use Rattle.qo_causes.specs.declared.inputs.Input.{Input}
use Rattle.qo_causes.specs.declared.inputs.Moment.{Moment}
use Rattle.qo_causes.specs.declared.inputs.What.{What}
use Rattle.qo_causes.specs.declared.inputs.What.TheVariants.{Bytes, Step}
use Rattle.qo_framing.specs.declared.items.Item.{Item}
use Rattle.qo_replies.specs.Replies.{error_reply, return_reply}
use Rattle.qo_replies.specs.declared.events.Event.{Event}
use Rattle.qo_requests.specs.declared.calls.Call.{Call}
use Rattle.qo_sessions.specs.Acts.{act}
use Rattle.qo_sessions.specs.Sessions.{closed, fed}
use Rattle.qo_sessions.specs.Sessions as sessions
use Rattle.qo_sessions.specs.declared.acts.SessionAct.{SessionAct}
use Rattle.qo_sessions.specs.declared.acts.SessionAct.TheVariants.{Answer, Negotiated, Do}
use Rattle.qo_values.specs.declared.codes.Code.{Code}
use Rattle.qo_values.specs.declared.codes.Code.TheVariants.{E99}
use Rattle.qo_values.specs.declared.limits.TheConstants.{SESSIONS}
use Rattle.qo_model.specs.Board.{Board, DeviceEvent}
use Rattle.qo_model.specs.Opening.{opening_board}
use Rattle.qo_commands.proofs.AttemptLemmas.{attempted-none}
use Rattle.qo_commands.specs.Changes.{Left, attempted}
use Rattle.qo_commands.specs.Commands.{Done, empty, event_of, perform, performed, without_events}
use Rattle.qo_listen.specs.Ears.{Ear}
use Rattle.qo_machine.specs.declared.machines.Reply.{Reply}
use Rattle.qo_machine.specs.Listening.{AnswersTold, Hears, ServesTold}
use Rattle.qo_realize.specs.Parts.{Parts}
use Rattle.qo_realize.specs.Representation.{Stands}
use Rattle.qo_realize.specs.Time.{advanced}
use Rattle.qo_machine.specs.Machine.{Choice, IsIn, Made, Message, Seen, State, Stepped, Answers, opening, preceded, by_item, after_command, commanding, defined, refused, event_outs, first, input_step, item_step, made_by, mode_of, others, reply, serve_by, serve_unless, session_of, state_with, step, those_commanding, event_messages, unchanged, with_board, with_session}
use Rattle.qo_machine.specs.Serving.{Came, CommandLeft, CommandServed, Serves, ServesBy, ServesTo, ServesToBy, Tells, moved}

-- after the end nothing is served
pub step_ended : (s : State) (i : Input) (cs : List Choice) → s.ended ≡ true → step s i cs ≡ unchanged s cs
unfolding step
step_ended s i cs h = rw h refl

-- before it the input is
pub step_on : (s : State) (i : Input) (w : What) (cs : List Choice) → s.ended ≡ false → i.what ≡ w → step s i cs ≡ input_step s i.at w cs
unfolding step
step_on s i w cs h e = rw (h, e) refl

-- whether a machine's run has ended is part of what is seen of it
pub seen_ended : {m n : Seen} → m ≡ n → m.ended ≡ n.ended
seen_ended is = ap (λ (m : Seen). m.ended) is

-- a state that a machine is in, by its board
pub in_at : (b : Board) (m : Seen) → Stands b m.board → IsIn (state_with b m) m
in_at b m stands = record { stands = stands; rest = refl }

-- what is so of a state that a machine is in, is so of its board with the rest of the machine
pub by_board : (P : State → Type 0) (m : Seen) → ((b : Board) → Stands b m.board → P (state_with b m)) → (s : State) → IsIn s m → P s
by_board P m h s at = subst P (sym at.rest) (h s.board at.stands)

-- what a step is, by its answer
pub answers_by : (s t : State) (i : Input) (outs : List Message) (m : Seen) (cs rest : List Choice)
    → step s i cs ≡ record { outs = outs; state = t; rest = rest } → IsIn t m → Answers s i outs m
answers_by s t i outs m cs rest is at =
    (cs, ap (λ (r : Stepped). r.outs) is, subst (λ (x : State). IsIn x m) (sym (ap (λ (r : Stepped). r.state) is)) at)

-- an input that is served after no end
pub answers_on : (s t : State) (i : Input) (w : What) (outs : List Message) (m : Seen) (cs rest : List Choice) → s.ended ≡ false → i.what ≡ w
    → input_step s i.at w cs ≡ record { outs = outs; state = t; rest = rest } → IsIn t m → Answers s i outs m
answers_on s t i w outs m cs rest going what is at = answers_by s t i outs m cs rest (step_on s i w cs going what ∙ is) at

-- nothing was sent
pub leaves : (s : State) (outs : List Message) → outs ≡ [] → unchanged s [] ≡ record { outs = outs; state = s; rest = [] }
leaves s outs none = ap (λ (o : List Message). record { outs = o; state = s; rest = [] }) (sym none)

-- an input after the end
pub answers_ended : (s : State) (i : Input) (outs : List Message) (m : Seen) → s.ended ≡ true → outs ≡ [] → IsIn s m → Answers s i outs m
answers_ended s i outs m over none at =
    answers_by s s i outs m [] [] (step_ended s i [] over ∙ leaves s outs none) at

-- a session put where it was
pub set_same : (ss : List sessions.State) (n : ℕ) → slice_set ss n (slice_index_or ss n closed) ≡ ss
set_same [] n = refl
set_same (s ∷ ss) zero = refl
set_same (s ∷ ss) (suc n) = ap (λ (rest : List sessions.State). s ∷ rest) (set_same ss n)

pub with_same : (s : State) (n : ℕ) → with_session s n (session_of s n) ≡ s
with_same s n =
    ap (λ (ss : List sessions.State). record { board = s.board; sessions = ss; guest_line = s.guest_line; ended = s.ended }) (set_same s.sessions n)

-- Events.

pub told_more : (s : State) (e : Event) (at : Moment) (ns ms : List ℕ)
    → event_messages e at (those_commanding s (ns ++ ms)) ≡ event_messages e at (those_commanding s ns) ++ event_messages e at (those_commanding s ms)
told_more s e at ns ms = rw (filter-append _ ns ms) (map-append _ (those_commanding s ns) (those_commanding s ms))

-- one more of a list
pub take_one : {X : Type 0} (xs : List X) (i : ℕ) (x : X) → i < length xs → x ≡ slice_index_or xs i x → take (i + 1) xs ≡ take i xs ++ x ∷ []
take_one xs i x below is = take_more xs i x below ∙ ap (λ y. take i xs ++ y ∷ []) (sym is)

pub events_more : (at : Moment) (s : State) (es : List DeviceEvent) (i : ℕ) (e : DeviceEvent) (start old now : List Message) → i < length es
    → e ≡ slice_index_or es i e → old ≡ start ++ event_outs at s (map event_of (take i es)) → now ≡ old ++ event_messages (event_of e) at (commanding s)
    → now ≡ start ++ event_outs at s (map event_of (take (i + 1) es))
events_more at s es i e start old now below is was more =
    let one : event_outs at s (event_of e ∷ []) ≡ event_messages (event_of e) at (commanding s) = append-nil (event_messages (event_of e) at (commanding s)) in
    let both : event_outs at s (map event_of (take i es)) ++ event_outs at s (event_of e ∷ []) ≡ event_outs at s (map event_of (take i es) ++ event_of e ∷ []) =
    sym (flat_map-append (λ (event : Event). event_messages event at (commanding s)) (map event_of (take i es)) (event_of e ∷ [])) in
    let front : map event_of (take i es) ++ event_of e ∷ [] ≡ map event_of (take (i + 1) es) =
    sym (map-append event_of (take i es) (e ∷ [])) ∙ ap (map event_of) (sym (take_one es i e below is)) in
    more ∙ ap (λ (outs : List Message). outs ++ event_messages (event_of e) at (commanding s)) was
    ∙ append_assoc start (event_outs at s (map event_of (take i es))) (event_messages (event_of e) at (commanding s))
    ∙ ap (λ (outs : List Message). start ++ outs)
    (ap (λ (outs : List Message). event_outs at s (map event_of (take i es)) ++ outs) (sym one) ∙ both ∙ ap (event_outs at s) front)

-- Items.

pub after_twice : (a b : List Message) (r : Stepped) → preceded a (preceded b r) ≡ preceded (a ++ b) r
after_twice a b r =
    ap (λ (outs : List Message). record { outs = outs; state = r.state; rest = r.rest }) (sym (append_assoc a b r.outs))

-- some, and then more
pub serves_more_by : {X : Type 0} (f : Choice → State → X → Made) (s t u : State) (xs ys : List X) (a b : List Message) → ServesBy f s xs a t
    → ServesBy f t ys b u → ServesBy f s (xs ++ ys) (a ++ b) u
serves_more_by f s t u xs ys a b p q = (
  p.0 ++ q.0,
  λ further rest.
      rw (append_assoc xs ys further, append_assoc p.0 q.0 rest)
      (p.1 (ys ++ further) (q.0 ++ rest) ∙ ap (preceded a) (q.1 further rest) ∙ after_twice a b (serve_by f further u rest)),
)

-- one
pub serve_on_by : {X : Type 0} (f : Choice → State → X → Made) (s : State) (x : X) (xs : List X) (cs : List Choice) → s.ended ≡ false
    → serve_by f (x ∷ xs) s cs ≡ preceded (f (first cs) s x).outs (serve_by f xs (f (first cs) s x).state (others cs))
serve_on_by f s x xs cs going =
    ap (λ (e : Bool). serve_unless e (unchanged s cs) (preceded (f (first cs) s x).outs (serve_by f xs (f (first cs) s x).state (others cs)))) going

pub serves_one_by : {X : Type 0} (f : Choice → State → X → Made) (s t : State) (x : X) (choice : Choice) (outs : List Message) → s.ended ≡ false
    → f choice s x ≡ record { outs = outs; state = t } → ServesBy f s (x ∷ []) outs t
serves_one_by f s t x choice outs going is = (
  choice ∷ [],
  λ further rest. serve_on_by f s x further (choice ∷ rest) going ∙ ap (λ (m : Made). preceded m.outs (serve_by f further m.state rest)) is,
)

serves_one : (at : Moment) (n : ℕ) (s t : State) (item : Item) (choice : Choice) (outs : List Message) → s.ended ≡ false
    → item_step choice at n s item ≡ record { outs = outs; state = t } → Serves at n s (item ∷ []) outs t
serves_one at n s t item choice outs going is = serves_one_by (by_item at n) s t item choice outs going is

-- after the end none is
pub stopped_by : {X : Type 0} (f : Choice → State → X → Made) (xs : List X) (s : State) (rest : List Choice) → s.ended ≡ true
    → serve_by f xs s rest ≡ unchanged s rest
stopped_by f [] s rest over = refl
stopped_by f (x ∷ xs) s rest over = rw over refl

pub serves_ended_by : {X : Type 0} (f : Choice → State → X → Made) (s : State) (x : X) → s.ended ≡ true → ServesBy f s (x ∷ []) [] s
serves_ended_by f s x over =
    ([], λ further rest. stopped_by f (x ∷ further) s rest over ∙ ap (preceded []) (sym (stopped_by f further s rest over)))

item_made : (at : Moment) (n : ℕ) (s t : State) (item : Item) (choice : Choice) (what : SessionAct) (outs : List Message) → what ≡ act (mode_of s n) item
    → made_by choice at n s what ≡ record { outs = outs; state = t } → item_step choice at n s item ≡ record { outs = outs; state = t }
unfolding item_step
item_made at n s t item choice what outs is made = ap (made_by choice at n s) (sym is) ∙ made

-- a refused item
pub item_answered : (at : Moment) (n : ℕ) (s t : State) (item : Item) (code : Code) (id : Option (List ℕ)) (text : List ℕ) → s.ended ≡ false
    → Answer code id ≡ act (mode_of s n) item → t ≡ moved s n (Answer code id) → text ≡ error_reply id code
    → Serves at n s (item ∷ []) ((to_session n, text) ∷ []) t
item_answered at n s t item code id text going is to written =
    serves_one at n s t item defined ((to_session n, text) ∷ []) going
    (item_made at n s t item defined (Answer code id) ((to_session n, text) ∷ []) is (rw (to, written) refl))

-- a negotiation
pub item_negotiated : (at : Moment) (n : ℕ) (s t : State) (item : Item) (id : Option (List ℕ)) (text : List ℕ) → s.ended ≡ false
    → Negotiated id ≡ act (mode_of s n) item → t ≡ moved s n (Negotiated id) → text ≡ return_reply id empty
    → Serves at n s (item ∷ []) ((to_session n, text) ∷ []) t
item_negotiated at n s t item id text going is to written =
    serves_one at n s t item defined ((to_session n, text) ∷ []) going
    (item_made at n s t item defined (Negotiated id) ((to_session n, text) ∷ []) is (rw (to, written) refl))

-- a command
pub item_done : (at : Moment) (n : ℕ) (s : State) (m : Seen) (item : Item) (command : Call) (id : Option (List ℕ)) (outs : List Message) → s.ended ≡ false
    → Do command id ≡ act (mode_of s n) item → CommandServed at n s command id outs m → ServesTo at n s (item ∷ []) outs m
item_done at n s m item command id outs going is p =
    let t = (made_by p.0 at n s (Do command id)).state in (
      t,
      p.2,
      serves_one
          at n s t item p.0 outs going (item_made at n s t item p.0 (Do command id) outs is (ap (λ (o : List Message). record { outs = o; state = t }) p.1)),
    )

-- a command was done as it is defined
pub command_done : (at : Moment) (n : ℕ) (s : State) (command : Call) (id : Option (List ℕ)) (outs : List Message) (m : Seen)
    → event_outs at s (perform s.board command).events ++ (to_session n, reply id (perform s.board command).result) ∷ [] ≡ outs
    → IsIn (after_command (perform s.board command).ends (with_board s (perform s.board command).board)) m → CommandServed at n s command id outs m
command_done at n s command id outs m sent to = (defined, sent, to)

-- a command was refused for want of memory
pub command_refused : (at : Moment) (n : ℕ) (s : State) (command : Call) (id : Option (List ℕ)) (text : List ℕ) (m : Seen) → text ≡ error_reply id E99
    → IsIn s m → CommandServed at n s command id ((to_session n, text) ∷ []) m
command_refused at n s command id text m written to =
    (refused 0 false, rw written refl, subst (λ (b : Board). IsIn (with_board s b) m) (sym (attempted-none s.board command)) to)

-- a command was refused for want of memory, after an attempt
pub command_given_up : (at : Moment) (n : ℕ) (s : State) (command : Call) (id : Option (List ℕ)) (text : List ℕ) (m : Seen) (i : ℕ) (joined : Bool)
    → text ≡ error_reply id E99 → IsIn (with_board s (attempted s.board command i joined)) m → CommandServed at n s command id ((to_session n, text) ∷ []) m
command_given_up at n s command id text m i joined written to = (refused i joined, rw written refl, to)

-- all of them
pub serve_all_by : {X : Type 0} (f : Choice → State → X → Made) (s t : State) (xs : List X) (outs : List Message) → (p : ServesBy f s xs outs t)
    → serve_by f xs s p.0 ≡ record { outs = outs; state = t; rest = [] }
serve_all_by {X = X} f s t xs outs p =
    ap (λ (ys : List X). serve_by f ys s p.0) (sym (append-nil xs)) ∙ ap (serve_by f (xs ++ []) s) (sym (append-nil p.0)) ∙ p.1 [] []
    ∙ ap (λ (o : List Message). record { outs = o; state = t; rest = [] }) (append-nil outs)

-- bytes of a session
pub bytes_taken : (at : Moment) (n : ℕ) (s : State) (m : Seen) (bytes : List ℕ) (items : List Item) (outs : List Message) (x y : List Ear) → n < SESSIONS
    → items ≡ (fed (session_of s n) bytes).items → ServesTold (by_item at n) (with_session s n (fed (session_of s n) bytes).session) items outs m x y
    → (choices : List Choice) × (t : State) × IsIn t m × (input_step s at (Bytes n bytes) choices ≡ record { outs = outs; state = t; rest = [] })
    × Hears s.board t.board x y
bytes_taken at n s m bytes items outs x y below is p =
    let f = fed (session_of s n) bytes in
    let start = with_session s n f.session in
    let q : Serves at n start f.items outs p.0 = subst (λ (js : List Item). Serves at n start js outs p.0) is p.2 in
    (q.0, p.0, p.1, rw (lt-ltb n SESSIONS below) (serve_all_by (by_item at n) start p.0 f.items outs q), p.3)

-- A machine that moved beside its board.

-- it did not move
pub in_still : (m to : Seen) → to ≡ m → (s : State) → IsIn s m → IsIn s to
in_still m to same s at = subst (IsIn s) (sym same) at

-- an input that touches no board, as the machine answers it
pub answers_moved : (i : Input) (w : What) (outs : List Message) (m to : Seen) → m.ended ≡ false → i.what ≡ w
    → ((b : Board) → input_step (state_with b m) i.at w [] ≡ record { outs = outs; state = state_with b to; rest = [] }) → to.board ≡ m.board → (s : State)
    → IsIn s m → Answers s i outs to
answers_moved i w outs m to going what is same s at =
    by_board (λ (x : State). Answers x i outs to) m
    (λ b stands. answers_on (state_with b m) (state_with b to) i w outs to [] [] going what (is b) (in_at b to (subst (Stands b) (sym same) stands))) s at

-- a step of the time
pub answers_timed : (i : Input) (outs : List Message) (ns : ℕ) (m to : Seen) → m.ended ≡ false → i.what ≡ Step ns → outs ≡ []
    → ((b : Board) → Stands b m.board → Stands (advanced b ns).board to.board) → ((b : Board) → state_with b to ≡ state_with b m) → (s : State) → IsIn s m
    → Answers s i outs to
answers_timed i outs ns m to going what none keeps same s at =
    by_board (λ (x : State). Answers x i outs to) m
    (λ b stands.
    let c = (advanced b ns).board in
    answers_on (state_with b m) (state_with c to) i (Step ns) outs to [] [] going what
    (ap (λ (t : State). unchanged t []) (sym (same c)) ∙ leaves (state_with c to) outs none)
    (in_at c to (keeps b stands))) s at

-- bytes of a session, as the machine answers them and listeners are told
pub answers_taken : (i : Input) (w : What) (outs : List Message) (m to : Seen) (x y : List Ear) → m.ended ≡ false → i.what ≡ w → (s : State) → IsIn s m
    → (choices : List Choice) × (t : State) × IsIn t to × (input_step s i.at w choices ≡ record { outs = outs; state = t; rest = [] })
    × Hears s.board t.board x y → AnswersTold s i outs to x y
answers_taken i w outs m to x y going what s at p =
    let is : step s i p.0 ≡ record { outs = outs; state = p.1; rest = [] } =
    step_on s i w p.0 (ap (λ (z : State). z.ended) at.rest ∙ going) what ∙ p.3 in
    let there : (step s i p.0).state ≡ p.1 = ap (λ (r : Stepped). r.state) is in (
      p.0,
      ap (λ (r : Stepped). r.outs) is,
      subst (λ (z : State). IsIn z to) (sym there) p.2,
      subst (λ (z : State). Hears s.board z.board x y) (sym there) p.4,
    )

-- A machine serves.

-- what was served so far, and one more
pub serves_on_by : {X : Type 0} (f : Choice → State → X → Made) (s : State) (mid to : Seen) (xs ys : List X) (a b : List Message) → ServesToBy f s xs a mid
    → ((t : State) → IsIn t mid → ServesToBy f t ys b to) → ServesToBy f s (xs ++ ys) (a ++ b) to
serves_on_by f s mid to xs ys a b p q =
    let next = q p.0 p.1 in (next.0, next.1, serves_more_by f s p.0 next.0 xs ys a b p.2 next.2)

-- a refused item, and a negotiation, as the machine serves them
pub serves_answer : (at : Moment) (n : ℕ) (m to : Seen) (item : Item) (code : Code) (id : Option (List ℕ)) (text : List ℕ) → m.ended ≡ false
    → ((b : Board) → Answer code id ≡ act (mode_of (state_with b m) n) item) → ((b : Board) → state_with b to ≡ moved (state_with b m) n (Answer code id))
    → to.board ≡ m.board → text ≡ error_reply id code → (s : State) → IsIn s m → ServesTo at n s (item ∷ []) ((to_session n, text) ∷ []) to
serves_answer at n m to item code id text going is move same written s here =
    by_board (λ (x : State). ServesTo at n x (item ∷ []) ((to_session n, text) ∷ []) to) m
    (λ b stands. (
      state_with b to,
      in_at b to (subst (Stands b) (sym same) stands),
      item_answered at n (state_with b m) (state_with b to) item code id text going (is b) (move b) written,
    )) s here

pub serves_negotiation : (at : Moment) (n : ℕ) (m to : Seen) (item : Item) (id : Option (List ℕ)) (text : List ℕ) → m.ended ≡ false
    → ((b : Board) → Negotiated id ≡ act (mode_of (state_with b m) n) item) → ((b : Board) → state_with b to ≡ moved (state_with b m) n (Negotiated id))
    → to.board ≡ m.board → text ≡ return_reply id empty → (s : State) → IsIn s m → ServesTo at n s (item ∷ []) ((to_session n, text) ∷ []) to
serves_negotiation at n m to item id text going is move same written s here =
    by_board (λ (x : State). ServesTo at n x (item ∷ []) ((to_session n, text) ∷ []) to) m
    (λ b stands. (
      state_with b to,
      in_at b to (subst (Stands b) (sym same) stands),
      item_negotiated at n (state_with b m) (state_with b to) item id text going (is b) (move b) written,
    )) s here

-- a command, as the machine serves it
pub serves_command : (at : Moment) (n : ℕ) (m mid to : Seen) (item : Item) (command : Call) (id : Option (List ℕ)) (outs : List Message) → m.ended ≡ false
    → ((b : Board) → Do command id ≡ act (mode_of (state_with b m) n) item) → ((b : Board) → state_with b mid ≡ moved (state_with b m) n (Do command id))
    → mid.board ≡ m.board → ((s : State) → IsIn s mid → CommandServed at n s command id outs to) → (s : State) → IsIn s m → ServesTo at n s (item ∷ []) outs to
serves_command at n m mid to item command id outs going is move same served s here =
    by_board (λ (x : State). ServesTo at n x (item ∷ []) outs to) m
    (λ b stands.
    item_done at n (state_with b m) to item command id outs going (is b)
    (served (state_with b m) (subst (λ (x : State). IsIn x mid) (move b) (in_at b mid (subst (Stands b) (sym same) stands))))) s here

-- one after the end
pub serves_over_by : {X : Type 0} (f : Choice → State → X → Made) (m to : Seen) (x : X) → m.ended ≡ true → to ≡ m → (s : State) → IsIn s m
    → ServesToBy f s (x ∷ []) [] to
serves_over_by f m to x over same s here =
    (s, in_still m to same s here, serves_ended_by f s x (ap (λ (y : State). y.ended) here.rest ∙ over))

-- Commands.

-- one that was done, and then nothing waits: the state that the machine is in
done_in : (n : ℕ) (m mid drained to : Seen) (command : Call) (id : Option (List ℕ)) (r : Reply)
    → ((b : Board) → Stands b m.board → Came b command id r mid.board) → ((b : Board) → state_with b mid ≡ state_with b m)
    → ((b : Board) → Stands b mid.board → Stands (without_events b) drained.board) → ((b : Board) → state_with b drained ≡ state_with b mid)
    → ((b : Board) → state_with b to ≡ after_command r.ends (state_with b drained)) → to.board ≡ drained.board
    → (b : Board) → Stands b m.board → IsIn (after_command (perform b command).ends (with_board (state_with b m) (perform b command).board)) to
done_in n m mid drained to command id r came still empties stays move same b stands =
    let p = came b stands in
    let x : Board = (perform b command).board in
    subst (λ (y : State). IsIn y to)
    (move x ∙ ap (after_command r.ends) (stays x ∙ still x)
    ∙ ap (λ (e : Bool). after_command e (with_board (state_with b m) x)) p.ends)
    (in_at x to (subst (Stands x) (sym same) (empties (performed b command).board p.stands)))

pub served_command : (at : Moment) (n : ℕ) (m mid drained to : Seen) (command : Call) (id : Option (List ℕ)) (r : Reply) (front : List Message)
    → ((b : Board) → Stands b m.board → Came b command id r mid.board) → ((b : Board) → state_with b mid ≡ state_with b m)
    → Tells at (to_session n) mid r front
    → ((b : Board) → Stands b mid.board → Stands (without_events b) drained.board) → ((b : Board) → state_with b drained ≡ state_with b mid)
    → ((b : Board) → state_with b to ≡ after_command r.ends (state_with b drained)) → to.board ≡ drained.board
    → (s : State) → IsIn s m → CommandServed at n s command id front to
served_command at n m mid drained to command id r front came still tells empties stays move same s here =
    by_board (λ (x : State). CommandServed at n x command id front to) m
    (λ b stands.
    let p = came b stands in
    let d : Done = performed b command in
    let waited : List Event = map event_of d.board.events in
    let is : tells.0 ≡ reply id d.result = rw tells.1 at p.replied in
    command_done at n (state_with b m) command id front to
    (ap (λ (es : List Event). event_outs at (state_with b m) (waited ++ es) ++ (to_session n, reply id d.result) ∷ []) (sym p.events)
    ∙ ap (λ (x : State). event_outs at x (waited ++ option_to_list r.event) ++ (to_session n, reply id d.result) ∷ []) (sym (still b))
    ∙ ap (λ (bytes : List ℕ). event_outs at (state_with b mid) (waited ++ option_to_list r.event) ++ (to_session n, bytes) ∷ []) (sym is)
    ∙ sym (tells.2 d.board p.stands))
    (done_in n m mid drained to command id r came still empties stays move same b stands)) s here

-- the same where memory ran out for its messages
pub left_done : (at : Moment) (n : ℕ) (m mid drained to : Seen) (command : Call) (id : Option (List ℕ)) (r : Reply)
    → ((b : Board) → Stands b m.board → Came b command id r mid.board) → ((b : Board) → state_with b mid ≡ state_with b m)
    → ((b : Board) → Stands b mid.board → Stands (without_events b) drained.board) → ((b : Board) → state_with b drained ≡ state_with b mid)
    → ((b : Board) → state_with b to ≡ after_command r.ends (state_with b drained)) → to.board ≡ drained.board
    → (s : State) → IsIn s m → CommandLeft at n s command id to
left_done at n m mid drained to command id r came still empties stays move same s here =
    by_board (λ (x : State). CommandLeft at n x command id to) m
    (λ b stands. inr (defined, done_in n m mid drained to command id r came still empties stays move same b stands)) s here

-- one that was refused for want of memory
pub served_want : (at : Moment) (n : ℕ) (m to : Seen) (command : Call) (id : Option (List ℕ)) (text : List ℕ) → text ≡ error_reply id E99
    → ((b : Board) → Stands b m.board → Left b command to.board) → ((b : Board) → state_with b to ≡ state_with b m) → (s : State) → IsIn s m
    → CommandServed at n s command id ((to_session n, text) ∷ []) to
served_want at n m to command id text written kept move s here =
    by_board (λ (x : State). CommandServed at n x command id ((to_session n, text) ∷ []) to) m
    (λ b stands. by b (kept b stands)) s here
  where
    by : (b : Board) → Left b command to.board → CommandServed at n (state_with b m) command id ((to_session n, text) ∷ []) to
    by b (inl stands) =
        command_refused at n (state_with b m) command id text to written (subst (λ (x : State). IsIn x to) (move b) (in_at b to stands))
    by b (inr (i, joined, stands)) =
        command_given_up at n (state_with b m) command id text to i joined written
        (subst (λ (x : State). IsIn x to) (move (attempted b command i joined)) (in_at (attempted b command i joined) to stands))

-- The answers of the machine's own calls.

-- an input that touches no board
pub served_beside : {E : Type 0} (r : Result (List Message) E) (i : Input) (w : What) (m to : Seen) → m.ended ≡ false → i.what ≡ w
    → ((b : Board) (at : Moment) → IfOk r (λ outs. input_step (state_with b m) at w [] ≡ record { outs = outs; state = state_with b to; rest = [] }))
    → to.board ≡ m.board → (s : State) → IsIn s m → IfOk r (λ outs. Answers s i outs to)
served_beside r i w m to going what is same s here =
    by_board (λ (x : State). IfOk r (λ outs. Answers x i outs to)) m
    (λ b stands.
    IfOk-weaker r _ _ (λ outs h. answers_on (state_with b m) (state_with b to) i w outs to [] [] going what h (in_at b to (subst (Stands b) (sym same) stands)))
    (is b i.at)) s here

-- bytes of a session
pub served_bytes : {E : Type 0} (r : Result (List Message) E) (i : Input) (w : What) (m to : Seen) (x y : List Ear) → m.ended ≡ false → i.what ≡ w
    → ((s : State) → IsIn s m
    → IfOk r (λ outs. (choices : List Choice) × (t : State) × IsIn t to × (input_step s i.at w choices ≡ record { outs = outs; state = t; rest = [] })
    × Hears s.board t.board x y))
    → (s : State) → IsIn s m → IfOk r (λ outs. AnswersTold s i outs to x y)
served_bytes r i w m to x y going what is s here = IfOk-weaker r _ _ (λ outs p. answers_taken i w outs m to x y going what s here p) (is s here)

-- the items that bytes complete
pub served_items : {E : Type 0} (r : Result (List Message) E) (at : Moment) (n : ℕ) (m mid to : Seen) (bytes : List ℕ) (items : List Item) (x y : List Ear)
    → n < SESSIONS → ((b : Board) → items ≡ (fed (session_of (state_with b m) n) bytes).items)
    → ((b : Board) → state_with b mid ≡ with_session (state_with b m) n (fed (session_of (state_with b m) n) bytes).session) → mid.board ≡ m.board
    → IfOk r (λ outs. (s : State) → IsIn s mid → ServesTold (by_item at n) s items outs to x y) → (s : State) → IsIn s m
    → IfOk r
    (λ outs. (choices : List Choice) × (t : State) × IsIn t to × (input_step s at (Bytes n bytes) choices ≡ record { outs = outs; state = t; rest = [] })
    × Hears s.board t.board x y)
served_items r at n m mid to bytes items x y below cuts move same served s here =
    by_board
    (λ (z : State). IfOk r (λ outs. (choices : List Choice) × (t : State) × IsIn t to
    × (input_step z at (Bytes n bytes) choices ≡ record { outs = outs; state = t; rest = [] }) × Hears z.board t.board x y)) m
    (λ b stands.
    IfOk-weaker r _ _
    (λ outs h.
    bytes_taken at n (state_with b m) to bytes items outs x y below (cuts b)
    (h (with_session (state_with b m) n (fed (session_of (state_with b m) n) bytes).session)
    (subst (λ (z : State). IsIn z mid) (move b) (in_at b mid (subst (Stands b) (sym same) stands))))) served) s here

-- bytes of a number that is no session's
pub beyond : (at : Moment) (n : ℕ) (bytes : List ℕ) (s : State) (outs : List Message) → SESSIONS ≤ n → outs ≡ []
    → input_step s at (Bytes n bytes) [] ≡ record { outs = outs; state = s; rest = [] }
beyond at n bytes s outs high none = by (nat_lt n SESSIONS) refl
  where
    by : (t : Bool) → nat_lt n SESSIONS ≡ t → input_step s at (Bytes n bytes) [] ≡ record { outs = outs; state = s; rest = [] }
    by true is = let below : n < SESSIONS = ltb-true n SESSIONS is in absurd (omega (arith, below, high))
    by false is = rw is (leaves s outs none)

-- a machine at first
pub starts : (m : Seen) → Stands opening_board m.board → m.sessions ≡ replicate SESSIONS closed → m.guest_line ≡ [] → m.ended ≡ false → IsIn opening m
starts m stands shut empty_line going =
    record {
      stands = stands;
      rest =
          ap (λ (ss : List sessions.State). record { board = opening_board; sessions = ss; guest_line = []; ended = false }) (sym shut)
          ∙ ap (λ (line : List ℕ). record { board = opening_board; sessions = m.sessions; guest_line = line; ended = false }) (sym empty_line)
          ∙ ap (λ (e : Bool). record { board = opening_board; sessions = m.sessions; guest_line = m.guest_line; ended = e }) (sym going);
    }

-- a board by the view of the machine that has it
pub stands_in : (b : Board) (v : Parts) (m : Seen) → v ≡ m.board → Stands b m.board → Stands b v
stands_in b v m is stands = subst (Stands b) (sym is) stands

pub seen_board : {m n : Seen} → m ≡ n → m.board ≡ n.board
seen_board is = ap (λ (m : Seen). m.board) is
