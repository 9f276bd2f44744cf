-- A run that sends no reply or answer that is refused for want of memory is the run in which each command and each line has its memory.
use Rattle.std.proofs.Common.{◌≡◌, ℕ, suc, Bool, true, false, if◌then◌else◌, ◌||◌, List, [], ◌∷◌, ◌++◌, map, refl, sym, ◌∙◌}
use Rattle.std.proofs.Common.{ap, subst, append-nil, Option, None, Some, slice_index_or}
use Rattle.std.proofs.lemmas.Bool.{true≢false, or_parts}
use Rattle.std.proofs.lemmas.List.{map-append}
use Rattle.std.proofs.lemmas.List.Elements.{filter_map-append}
use Rattle.std.specs.List.{AllByRecursion, cons_option}
use Rattle.qo_causes.specs.Hub.{given_by, is_end}
use Rattle.qo_causes.specs.Names.{Given}
use Rattle.qo_causes.specs.declared.inputs.Input.{Input}
use Rattle.qo_causes.specs.declared.inputs.Moment.{Moment}
use Rattle.qo_causes.specs.declared.inputs.What.{What}
use Rattle.qo_causes.specs.declared.inputs.What.TheVariants.{Open, Bytes, Shut, Guest, Step, End}
use Rattle.qo_framing.specs.declared.items.Item.{Item}
use Rattle.qo_sessions.specs.Acts.{act}
use Rattle.qo_sessions.specs.Sessions as sessions
use Rattle.qo_sessions.specs.declared.acts.SessionAct.{SessionAct}
use Rattle.qo_sessions.specs.declared.acts.SessionAct.TheVariants.{Answer, Negotiated, Do}
use Rattle.qo_sessions.specs.declared.modes.Mode.{Mode}
use Rattle.qo_sessions.specs.declared.modes.Mode.TheVariants.{Closed, Commanding, Negotiating}
use Rattle.qo_values.specs.declared.codes.Code.TheVariants.{E99}
use Rattle.qo_values.specs.declared.limits.TheConstants.{SESSIONS}
use Rattle.std.specs.Prelude.{nat_lt}
use Rattle.qo_replies.specs.Replies.{error_reply}
use Rattle.qo_machine.proofs.RunLemmas.{closed_none, lines_more, outs_more}
use Rattle.qo_causes.specs.declared.hubs.Lane.TheVariants.{Guest as guest}
use Rattle.qo_guest.specs.declared.answers.GuestAnswer.TheVariants.{NoMemory}
use Rattle.qo_commands.specs.Lines.{lines_of, without_return}
use Rattle.qo_machine.specs.Machine.{Choice, Made, Message, State, Stepped, answer_line, preceded, by_item, by_line, defined, finished, input_step, item_step, line_made, line_step}
use Rattle.qo_machine.specs.Machine.{made_by, mode_of, opened, opening, refused, serve_by, serve_unless, step, taken, unchanged, with_line, with_session}
use Rattle.qo_machine.specs.Runs.{EndsAtLast, Turn, after, closed_where, has_end, outs_at, outs_of, state_after, transcript, transcript_at, transcript_of}
use Rattle.qo_machine.specs.Runs.{turn_inputs}
use Rattle.compose.proofs.ReplayLemmas.{given_at, going_on}
use Rattle.compose.specs.Demo.{as_defined}
use Rattle.compose.specs.Replay.{NoneLost}

-- no message is a reply, or an answer to the guest, that is refused for want of memory
abbrev pub NoneRefused : List Message → Type 0
NoneRefused outs = AllByRecursion (λ (m : Message). ((id : Option (List ℕ)) → m.1 ≡ error_reply id E99 → ⊥) × (m ≡ (guest, answer_line NoMemory) → ⊥)) outs

none_before : (xs ys : List Message) → NoneRefused (xs ++ ys) → NoneRefused xs
none_before [] ys h = tt
none_before (x ∷ xs) ys h = (h.0, none_before xs ys h.1)

pub none_both : (xs ys : List Message) → NoneRefused xs → NoneRefused ys → NoneRefused (xs ++ ys)
none_both [] ys p q = q
none_both (x ∷ xs) ys p q = (p.0, none_both xs ys p.1 q)

none_after : (xs ys : List Message) → NoneRefused (xs ++ ys) → NoneRefused ys
none_after [] ys h = h
none_after (x ∷ xs) ys h = none_after xs ys h.1

-- One step.

record Same (a b : Stepped) : Type 0 where
  outs : a.outs ≡ b.outs
  state : a.state ≡ b.state

made_same : (c : Choice) (at : Moment) (n : ℕ) (s : State) (what : SessionAct) → NoneRefused (made_by c at n s what).outs →
    made_by c at n s what ≡ made_by defined at n s what
made_same defined at n s what h = refl
made_same (refused i joined) at n s (Answer code id) h = refl
made_same (refused i joined) at n s (Negotiated id) h = refl
made_same (refused i joined) at n s (Do request id) h = absurd (h.0.0 id refl)

item_same : (c : Choice) (at : Moment) (n : ℕ) (s : State) (item : Item) → NoneRefused (item_step c at n s item).outs →
    item_step c at n s item ≡ item_step defined at n s item
unfolding item_step
item_same c at n s item h = made_same c at n s (act (mode_of s n) item) h

line_made_same : (c : Choice) (at : Moment) (s : State) (line : List ℕ) → NoneRefused (line_made c at s line).outs
    → line_made c at s line ≡ line_made defined at s line
line_made_same defined at s line h = refl
line_made_same (refused i joined) at s line h = absurd (h.0.1 refl)

line_same : (c : Choice) (at : Moment) (s : State) (line : List ℕ) → NoneRefused (line_step c at s line).outs
    → line_step c at s line ≡ line_step defined at s line
unfolding line_step
line_same c at s line h = line_made_same c at s (without_return line) h

-- a step that is the defined one where nothing is refused
abbrev SameStep : {X : Type 0} → (Choice → State → X → Made) → Type 0
SameStep {X = X} f = (c : Choice) (s : State) (x : X) → NoneRefused (f c s x).outs → f c s x ≡ f defined s x

-- what is after the first, with the choices that are left
abbrev Goes : {X : Type 0} → (Choice → State → X → Made) → List X → Type 0
Goes f xs = (s : State) (cs : List Choice) → NoneRefused (serve_by f xs s cs).outs → Same (serve_by f xs s cs) (serve_by f xs s [])

next_same : {X : Type 0} (f : Choice → State → X → Made) (xs : List X) (made plain : Made) (cs : List Choice) → made ≡ plain →
    NoneRefused (serve_by f xs made.state cs).outs →
    Goes f xs → Same (preceded made.outs (serve_by f xs made.state cs)) (preceded plain.outs (serve_by f xs plain.state []))
next_same f xs made plain cs same h goes =
    subst (λ (m : Made). Same (preceded made.outs (serve_by f xs made.state cs)) (preceded m.outs (serve_by f xs m.state []))) same
    (record { outs = ap (λ (l : List Message). made.outs ++ l) (goes made.state cs h).outs; state = (goes made.state cs h).state })

serve_at : {X : Type 0} (f : Choice → State → X → Made) → SameStep f → (x : X) (xs : List X) (s : State) (c : Choice) (cs : List Choice) (ended : Bool)
    → Goes f xs →
    NoneRefused (serve_unless ended (unchanged s (c ∷ cs)) (preceded (f c s x).outs (serve_by f xs (f c s x).state cs))).outs →
    Same (serve_unless ended (unchanged s (c ∷ cs)) (preceded (f c s x).outs (serve_by f xs (f c s x).state cs)))
    (serve_unless ended (unchanged s []) (preceded (f defined s x).outs (serve_by f xs (f defined s x).state [])))
serve_at f same x xs s c cs true goes h = record { outs = refl; state = refl }
serve_at f same x xs s c cs false goes h =
    let made : Made = f c s x in
    next_same f xs made (f defined s x) cs
    (same c s x (none_before made.outs (serve_by f xs made.state cs).outs h))
    (none_after made.outs (serve_by f xs made.state cs).outs h) goes

serve_same : {X : Type 0} (f : Choice → State → X → Made) → SameStep f → (xs : List X) → Goes f xs
serve_same f same [] s cs h = record { outs = refl; state = refl }
serve_same f same (x ∷ xs) s [] h = record { outs = refl; state = refl }
serve_same f same (x ∷ xs) s (c ∷ cs) h = serve_at f same x xs s c cs s.ended (serve_same f same xs) h

open_same : (few : Bool) (s : State) (n : ℕ) (mode : Mode) (cs : List Choice) →
    Same (if few then opened s n mode cs else unchanged s cs) (if few then opened s n mode [] else unchanged s [])
open_same true s n mode cs = mode_same mode
  where
    mode_same : (m : Mode) → Same (opened s n m cs) (opened s n m [])
    mode_same Closed = record { outs = refl; state = refl }
    mode_same Negotiating = record { outs = refl; state = refl }
    mode_same Commanding = record { outs = refl; state = refl }
open_same false s n mode cs = record { outs = refl; state = refl }

bytes_same : (few : Bool) (at : Moment) (s : State) (n : ℕ) (bytes : List ℕ) (cs : List Choice) →
    NoneRefused (if few then taken at s n bytes cs else unchanged s cs).outs →
    Same (if few then taken at s n bytes cs else unchanged s cs) (if few then taken at s n bytes [] else unchanged s [])
bytes_same true at s n bytes cs h =
    let f = sessions.fed (sessions_at s n) bytes in
    serve_same (by_item at n) (λ c t item. item_same c at n t item) f.items (with_session s n f.session) cs h
  where
    sessions_at : State → ℕ → sessions.State
    sessions_at t m = slice_index_or t.sessions m sessions.closed
bytes_same false at s n bytes cs h = record { outs = refl; state = refl }

shut_same : (few : Bool) (s t : State) (cs : List Choice) →
    Same (if few then unchanged t cs else unchanged s cs) (if few then unchanged t [] else unchanged s [])
shut_same true s t cs = record { outs = refl; state = refl }
shut_same false s t cs = record { outs = refl; state = refl }

input_same : (s : State) (at : Moment) (what : What) (cs : List Choice) → NoneRefused (input_step s at what cs).outs →
    Same (input_step s at what cs) (input_step s at what [])
input_same s at (Open n) cs h = open_same (nat_lt n SESSIONS) s n (mode_of s n) cs
input_same s at (Bytes n bytes) cs h = bytes_same (nat_lt n SESSIONS) at s n bytes cs h
input_same s at (Shut n) cs h = shut_same (nat_lt n SESSIONS) s (with_session s n sessions.closed) cs
input_same s at (Guest bytes) cs h =
    let l = lines_of s.guest_line bytes in
    serve_same (by_line at) (λ c t line. line_same c at t line) l.lines (with_line s l.rest) cs h
input_same s at (Step ns) cs h = record { outs = refl; state = refl }
input_same s at End cs h = record { outs = refl; state = refl }

unless_same : (ended : Bool) (s : State) (cs : List Choice) (a b : Stepped) → NoneRefused (serve_unless ended (unchanged s cs) a).outs →
    (NoneRefused a.outs → Same a b) → Same (serve_unless ended (unchanged s cs) a) (serve_unless ended (unchanged s []) b)
unless_same true s cs a b h same = record { outs = refl; state = refl }
unless_same false s cs a b h same = same h

step_same : (s : State) (i : Input) (cs : List Choice) → NoneRefused (step s i cs).outs → Same (step s i cs) (step s i [])
unfolding step
step_same s i cs h = unless_same s.ended s cs (input_step s i.at i.what cs) (input_step s i.at i.what []) h (input_same s i.at i.what cs)

-- Whole turns, none of which is the end.

none_closed : (lost : List Bool) (all : List sessions.State) → ((n : ℕ) → slice_index_or lost n false ≡ false) → closed_where lost all ≡ all
unfolding closed_where
none_closed [] all h = refl
none_closed (flag ∷ lost) [] h = refl
none_closed (flag ∷ lost) (x ∷ all) h =
    ap (λ (f : Bool). (if f then sessions.closed else x) ∷ closed_where lost all) (h 0)
    ∙ ap (λ (l : List sessions.State). x ∷ l) (none_closed lost all (λ n. h (suc n)))

turn_state : (s : State) (t : Turn) → ((n : ℕ) → slice_index_or t.lost n false ≡ false) → NoneRefused (outs_at s t) →
    after s t ≡ after s (as_defined (given_at t))
turn_state s t kept h =
    let r = step_same s t.input t.choices h in
    let all : List sessions.State = (step s t.input t.choices).state.sessions in
    ap (λ (l : List sessions.State). record (step s t.input t.choices).state { sessions = l }) (none_closed t.lost all kept)
    ∙ r.state
    ∙ ap (λ (l : List sessions.State). record (step s t.input []).state { sessions = l }) (closed_none (step s t.input []).state.sessions)

-- the inputs of turns whose first is not the end
abbrev with_given : Bool → Given → List Given → List Given
with_given e i inputs = cons_option (if e then None else Some i) inputs

given_first : (e : Bool) (i : Given) (inputs : List Given) → e ≡ false → with_given e i inputs ≡ i ∷ inputs
given_first e i inputs on = ap (λ (b : Bool). with_given b i inputs) on

abbrev plain : List Given → List Turn
plain inputs = map as_defined inputs

record SameRun (s : State) (ts us : List Turn) : Type 0 where
  lines : transcript_of s ts ≡ transcript_of s us
  state : state_after s ts ≡ state_after s us

run_same : (ts : List Turn) (s : State) → NoneLost ts → has_end ts ≡ false → NoneRefused (outs_of s ts) → SameRun s ts (plain (turn_inputs ts))
run_same [] s lost none h = record { lines = refl; state = refl }
run_same (t ∷ ts) s lost none h =
    let ends = or_parts (is_end t.input.what) (has_end ts) none in
    let here = none_before (outs_at s t) (outs_of (after s t) ts) h in
    let one : Turn = as_defined (given_at t) in
    let on : after s t ≡ after s one = turn_state s t lost.0 here in
    let r = run_same ts (after s t) lost.1 ends.1 (none_after (outs_at s t) (outs_of (after s t) ts) h) in
    let more : List Turn = plain (turn_inputs ts) in
    let inputs : turn_inputs (t ∷ ts) ≡ given_at t ∷ turn_inputs ts = given_first (is_end t.input.what) (given_at t) (turn_inputs ts) ends.0 in
    record {
      lines =
          ap (λ (l : List ℕ). transcript_at s t ++ l) (r.lines ∙ ap (λ (u : State). transcript_of u more) on)
          ∙ ap (λ (l : List Message). transcript t.names l ++ transcript_of (after s one) more) (step_same s t.input t.choices here).outs
          ∙ sym (ap (λ (l : List Given). transcript_of s (plain l)) inputs);
      state = r.state ∙ ap (λ (u : State). state_after u more) on ∙ sym (ap (λ (l : List Given). state_after s (plain l)) inputs);
    }

-- After the end of the run nothing is sent, and the end sends nothing.

stays_ended : (s : State) (i : Input) → s.ended ≡ true → step s i [] ≡ unchanged s []
unfolding step
stays_ended s i over = ap (λ (b : Bool). serve_unless b (unchanged s []) (input_step s i.at i.what [])) over

ended_quiet : (inputs : List Given) (s : State) → s.ended ≡ true → transcript_of s (plain inputs) ≡ []
ended_quiet [] s over = refl
ended_quiet (g ∷ inputs) s over =
    let same = stays_ended s g.input over in
    let next : State = after s (as_defined g) in
    ap (λ (r : Stepped). transcript g.names r.outs ++ transcript_of next (plain inputs)) same
    ∙ ended_quiet inputs next (ap (λ (r : Stepped). r.state.ended) same ∙ over)

nothing_sent : (ended : Bool) (s t : State) (cs : List Choice) → (serve_unless ended (unchanged s cs) (unchanged t cs)).outs ≡ []
nothing_sent true s t cs = refl
nothing_sent false s t cs = refl

end_quiet : (s : State) (at : Moment) (what : What) (cs : List Choice) → is_end what ≡ true →
    (serve_unless s.ended (unchanged s cs) (input_step s at what cs)).outs ≡ []
end_quiet s at (Open n) cs h = absurd (true≢false (sym h))
end_quiet s at (Bytes n bytes) cs h = absurd (true≢false (sym h))
end_quiet s at (Shut n) cs h = absurd (true≢false (sym h))
end_quiet s at (Guest bytes) cs h = absurd (true≢false (sym h))
end_quiet s at (Step ns) cs h = absurd (true≢false (sym h))
end_quiet s at End cs h = nothing_sent s.ended s (finished s) cs

last_quiet : (s : State) (t : Turn) → is_end t.input.what ≡ true → outs_at s t ≡ []
unfolding step
last_quiet s t h = end_quiet s t.input.at t.input.what t.choices h

-- A run that has ended with its last turn.

or_false : (b : Bool) → (b || false) ≡ b
or_false true = refl
or_false false = refl

end_of : (ts : List Turn) (t : Turn) → has_end ts ≡ false → has_end (ts ++ t ∷ []) ≡ is_end t.input.what
end_of [] t none = or_false (is_end t.input.what)
end_of (u ∷ ts) t none =
    let ends = or_parts (is_end u.input.what) (has_end ts) none in
    ap (λ (b : Bool). b || has_end (ts ++ t ∷ [])) ends.0 ∙ end_of ts t ends.1

lost_before : (ts us : List Turn) → NoneLost (ts ++ us) → NoneLost ts
lost_before [] us h = tt
lost_before (t ∷ ts) us h = (h.0, lost_before ts us h.1)

end_given : (e : Bool) (i : Given) → e ≡ true → with_given e i [] ≡ []
end_given e i h = ap (λ (b : Bool). with_given b i []) h

-- the last turn was the end
by_end : (before : List Turn) (last : Turn) (inputs rest : List Given) → (state_after opening before).ended ≡ false →
    is_end last.input.what ≡ true → rest ≡ [] → NoneLost (before ++ last ∷ []) → inputs ≡ turn_inputs (before ++ last ∷ []) ++ rest →
    NoneRefused (outs_of opening (before ++ last ∷ [])) → transcript_of opening (before ++ last ∷ []) ≡ transcript_of opening (plain inputs)
by_end before last inputs rest going is none lost all h =
    let s : State = state_after opening before in
    let quiet = last_quiet s last is in
    let outs : outs_of opening (before ++ last ∷ []) ≡ outs_of opening before =
    outs_more before (last ∷ []) opening ∙ ap (λ (l : List Message). outs_of opening before ++ (l ++ [])) quiet
    ∙ append-nil (outs_of opening before) in
    let lines : transcript_of opening (before ++ last ∷ []) ≡ transcript_of opening before =
    lines_more before (last ∷ []) opening ∙ ap (λ (l : List Message). transcript_of opening before ++ (transcript last.names l ++ [])) quiet
    ∙ append-nil (transcript_of opening before) in
    let taken : turn_inputs (before ++ last ∷ []) ≡ turn_inputs before =
    filter_map-append (λ (t : Turn). given_by t.input t.names) before (last ∷ [])
    ∙ ap (λ (l : List Given). turn_inputs before ++ l) (end_given (is_end last.input.what) (given_at last) is) ∙ append-nil (turn_inputs before) in
    let given : inputs ≡ turn_inputs before =
    all ∙ ap (λ (l : List Given). turn_inputs (before ++ last ∷ []) ++ l) none ∙ append-nil (turn_inputs (before ++ last ∷ [])) ∙ taken in
    lines
    ∙ (run_same before opening (lost_before before (last ∷ []) lost) (going_on before going) (subst NoneRefused outs h)).lines
    ∙ sym (ap (λ (l : List Given). transcript_of opening (plain l)) given)

-- the run has ended by its last input
by_input : (ts : List Turn) (inputs rest : List Given) → has_end ts ≡ false → (state_after opening ts).ended ≡ true → NoneLost ts →
    inputs ≡ turn_inputs ts ++ rest → NoneRefused (outs_of opening ts) → transcript_of opening ts ≡ transcript_of opening (plain inputs)
by_input ts inputs rest none over lost all h =
    let r = run_same ts opening lost none h in
    let us : List Turn = plain (turn_inputs ts) in
    let after_end : transcript_of (state_after opening us) (plain rest) ≡ [] =
    ended_quiet rest (state_after opening us) (ap (λ (u : State). u.ended) (sym r.state) ∙ over) in
    r.lines ∙ sym (append-nil (transcript_of opening us)) ∙ ap (λ (l : List ℕ). transcript_of opening us ++ l) (sym after_end)
    ∙ sym (lines_more us (plain rest) opening)
    ∙ ap (λ (l : List Turn). transcript_of opening l) (sym (map-append as_defined (turn_inputs ts) rest))
    ∙ sym (ap (λ (l : List Given). transcript_of opening (plain l)) all)

ended_run : (before : List Turn) (last : Turn) (inputs rest : List Given) → (state_after opening before).ended ≡ false →
    (state_after opening (before ++ last ∷ [])).ended ≡ true → NoneLost (before ++ last ∷ []) → inputs ≡ turn_inputs (before ++ last ∷ []) ++ rest →
    (has_end (before ++ last ∷ []) ≡ true → rest ≡ []) → NoneRefused (outs_of opening (before ++ last ∷ [])) →
    transcript_of opening (before ++ last ∷ []) ≡ transcript_of opening (plain inputs)
ended_run before last inputs rest going over lost all none h = by (is_end last.input.what) refl
  where
    ends : has_end (before ++ last ∷ []) ≡ is_end last.input.what
    ends = end_of before last (going_on before going)

    by : (e : Bool) → is_end last.input.what ≡ e → transcript_of opening (before ++ last ∷ []) ≡ transcript_of opening (plain inputs)
    by true is = by_end before last inputs rest going is (none (ends ∙ is)) lost all h
    by false is = by_input (before ++ last ∷ []) inputs rest (ends ∙ is) over lost all h

pub defined_run : (ts : List Turn) (inputs rest : List Given) → EndsAtLast ts → NoneLost ts → inputs ≡ turn_inputs ts ++ rest →
    (has_end ts ≡ true → rest ≡ []) → NoneRefused (outs_of opening ts) → transcript_of opening ts ≡ transcript_of opening (map as_defined inputs)
defined_run ts inputs rest ends lost all none h =
    let P : List Turn → Type 0 = λ us. NoneLost us × (inputs ≡ turn_inputs us ++ rest) × (has_end us ≡ true → rest ≡ []) × NoneRefused (outs_of opening us)
    × ((state_after opening us).ended ≡ true) in
    let p = subst P ends.2 (lost, all, none, h, ends.4) in
    ap (λ (us : List Turn). transcript_of opening us) ends.2
    ∙ ended_run ends.0 ends.1 inputs rest ends.3 p.4 p.0 p.1 p.2 p.3
