-- Lines of the guest, as the machine serves them.
use Rattle.std.proofs.Common.{◌≡◌, ℕ, Bool, false, List, [], ◌∷◌, ◌++◌, map, option_to_list, refl, sym, subst, ◌∙◌, ap, Result, IfOk}
use Rattle.qo_causes.specs.declared.hubs.Lane.TheVariants.{Guest as guest}
use Rattle.qo_causes.specs.declared.inputs.Moment.{Moment}
use Rattle.qo_causes.specs.declared.inputs.What.TheVariants.{Guest}
use Rattle.qo_guest.specs.declared.answers.GuestAnswer.TheVariants.{NoMemory}
use Rattle.qo_commands.specs.Hearing.{Outcome, heard}
use Rattle.qo_commands.specs.Lines.{lines_of, without_return}
use Rattle.qo_model.specs.Board.{Board}
use Rattle.qo_realize.specs.Representation.{Stands}
use Rattle.qo_replies.specs.declared.events.Event.{Event}
use Rattle.qo_commands.specs.Commands.{event_of, without_events}
use Rattle.qo_machine.specs.declared.machines.Reply.{Reply}
use Rattle.qo_machine.proofs.MemoryLemmas.{front_one_by}
use Rattle.qo_machine.proofs.MachineLemmas.{by_board, in_at, serve_all_by, serves_one_by}
use Rattle.std.proofs.lemmas.Result.{IfOk-weaker}
use Rattle.qo_listen.specs.Ears.{Ear}
use Rattle.qo_machine.specs.Listening.{Hears, ServesTold}
use Rattle.qo_machine.specs.Machine.{Choice, IsIn, Made, Message, Seen, State, answer_line, after_command, by_line, defined, event_outs, input_step, line_step, refused, state_with, with_board, with_line}
use Rattle.qo_machine.specs.Serving.{CameTo, LinesFront, LinesTo, ServesBy, Tells}

-- what a machine does of a line: it hears it, tells of it, and concludes
abbrev after_line : State → Outcome → State
after_line s o = after_command o.ends (with_board s (without_events o.board))

-- the state that it is in after it
line_in : (m mid drained to : Seen) (line : List ℕ) (r : Reply)
    → ((b : Board) → Stands b m.board → CameTo (heard b line) r mid.board) → ((b : Board) → state_with b mid ≡ state_with b m)
    → ((b : Board) → Stands b mid.board → Stands (without_events b) drained.board) → ((b : Board) → state_with b drained ≡ state_with b mid)
    → ((b : Board) → state_with b to ≡ after_command r.ends (state_with b drained)) → to.board ≡ drained.board
    → (b : Board) → Stands b m.board → IsIn (after_line (state_with b m) (heard b line)) to
line_in m mid drained to line r came still empties stays move same b stands =
    let p = came b stands in
    let x : Board = without_events (heard b line).board in
    subst (λ (y : State). IsIn y to)
    (move x ∙ ap (after_command r.ends) (stays x ∙ still x)
    ∙ ap (λ (e : Bool). after_command e (with_board (state_with b m) x)) p.ends)
    (in_at x to (subst (Stands x) (sym same) (empties (heard b line).board p.stands)))

-- what a line makes by what is done of it
line_is : (at : Moment) (s : State) (line : List ℕ) (outs : List Message)
    → (event_outs at s (map event_of (heard s.board (without_return line)).board.events ++ (heard s.board (without_return line)).events)
    ++ (guest, answer_line (heard s.board (without_return line)).answer) ∷ []) ≡ outs
    → line_step defined at s line ≡ record { outs = outs; state = after_line s (heard s.board (without_return line)) }
unfolding line_step
line_is at s line outs is =
    ap (λ (o : List Message). record { outs = o; state = after_line s (heard s.board (without_return line)) }) is

pub line_served : (at : Moment) (m mid drained to : Seen) (line : List ℕ) (r : Reply) (front : List Message) → m.ended ≡ false
    → ((b : Board) → Stands b m.board → CameTo (heard b (without_return line)) r mid.board) → ((b : Board) → state_with b mid ≡ state_with b m)
    → Tells at guest mid r front
    → ((b : Board) → Stands b mid.board → Stands (without_events b) drained.board) → ((b : Board) → state_with b drained ≡ state_with b mid)
    → ((b : Board) → state_with b to ≡ after_command r.ends (state_with b drained)) → to.board ≡ drained.board
    → (s : State) → IsIn s m → LinesTo at s (line ∷ []) front to
line_served at m mid drained to line r front going came still tells empties stays move same s here =
    by_board (λ (x : State). LinesTo at x (line ∷ []) front to) m
    (λ b stands.
    let p = came b stands in
    let o : Outcome = heard b (without_return line) in
    let waited : List Event = map event_of o.board.events in
    let is : tells.0 ≡ answer_line o.answer = rw tells.1 at p.replied in (
      after_line (state_with b m) o,
      line_in m mid drained to (without_return line) r came still empties stays move same b stands,
      serves_one_by (by_line at) (state_with b m) (after_line (state_with b m) o) line defined front going
          (line_is at (state_with b m) line front
          (ap (λ (es : List Event). event_outs at (state_with b m) (waited ++ es) ++ (guest, answer_line o.answer) ∷ []) (sym p.events)
          ∙ ap (λ (x : State). event_outs at x (waited ++ option_to_list r.event) ++ (guest, answer_line o.answer) ∷ []) (sym (still b))
          ∙ ap (λ (bytes : List ℕ). event_outs at (state_with b mid) (waited ++ option_to_list r.event) ++ (guest, bytes) ∷ []) (sym is)
          ∙ sym (tells.2 o.board p.stands))),
    )) s here

-- where memory ran out for its messages
pub line_left : (at : Moment) (m mid drained to : Seen) (line : List ℕ) (r : Reply) → m.ended ≡ false
    → ((b : Board) → Stands b m.board → CameTo (heard b (without_return line)) r mid.board) → ((b : Board) → state_with b mid ≡ state_with b m)
    → ((b : Board) → Stands b mid.board → Stands (without_events b) drained.board) → ((b : Board) → state_with b drained ≡ state_with b mid)
    → ((b : Board) → state_with b to ≡ after_command r.ends (state_with b drained)) → to.board ≡ drained.board
    → (s : State) → IsIn s m → LinesFront at s (line ∷ []) to
line_left at m mid drained to line r going came still empties stays move same s here =
    by_board (λ (x : State). LinesFront at x (line ∷ []) to) m
    (λ b stands.
    front_one_by (by_line at) (state_with b m) line defined to going
    (subst (λ (x : State). IsIn x to) (sym (ap (λ (d : Made). d.state) (line_is at (state_with b m) line _ refl)))
    (line_in m mid drained to (without_return line) r came still empties stays move same b stands))) s here

-- a line that is refused for want of memory
refused_is : (at : Moment) (s : State) (line text : List ℕ) → text ≡ answer_line NoMemory
    → line_step (refused 0 false) at s line ≡ record { outs = (guest, text) ∷ []; state = s }
unfolding line_step
refused_is at s line text is =
    ap (λ (t : List ℕ). record { outs = (guest, t) ∷ []; state = s }) (sym is)

pub line_refused : (at : Moment) (m to : Seen) (line text : List ℕ) → m.ended ≡ false → text ≡ answer_line NoMemory → to.board ≡ m.board
    → ((b : Board) → state_with b to ≡ state_with b m)
    → (s : State) → IsIn s m → LinesTo at s (line ∷ []) ((guest, text) ∷ []) to
line_refused at m to line text going is same move s here =
    by_board (λ (x : State). LinesTo at x (line ∷ []) ((guest, text) ∷ []) to) m
    (λ b stands. (
      state_with b m,
      subst (λ (x : State). IsIn x to) (move b) (in_at b to (subst (Stands b) (sym same) stands)),
      serves_one_by (by_line at) (state_with b m) (state_with b m) line (refused 0 false) ((guest, text) ∷ []) going
          (refused_is at (state_with b m) line text is),
    )) s here

pub line_refused_left : (at : Moment) (m to : Seen) (line : List ℕ) → m.ended ≡ false → to.board ≡ m.board → ((b : Board) → state_with b to ≡ state_with b m)
    → (s : State) → IsIn s m → LinesFront at s (line ∷ []) to
line_refused_left at m to line going same move s here =
    by_board (λ (x : State). LinesFront at x (line ∷ []) to) m
    (λ b stands.
    front_one_by (by_line at) (state_with b m) line (refused 0 false) to going
    (subst (λ (x : State). IsIn x to) (sym (ap (λ (d : Made). d.state) (refused_is at (state_with b m) line (answer_line NoMemory) refl)))
    (subst (λ (x : State). IsIn x to) (move b) (in_at b to (subst (Stands b) (sym same) stands))))) s here

-- all lines that end in some bytes
lines_taken : (at : Moment) (s : State) (m : Seen) (bytes : List ℕ) (lines : List (List ℕ)) (outs : List Message) (x y : List Ear)
    → lines ≡ (lines_of s.guest_line bytes).lines
    → ServesTold (by_line at) (with_line s (lines_of s.guest_line bytes).rest) lines outs m x y
    → (choices : List Choice) × (t : State) × IsIn t m × (input_step s at (Guest bytes) choices ≡ record { outs = outs; state = t; rest = [] })
    × Hears s.board t.board x y
lines_taken at s m bytes lines outs x y is p =
    let l = lines_of s.guest_line bytes in
    let start = with_line s l.rest in
    let q : ServesBy (by_line at) start l.lines outs p.0 = subst (λ (xs : List (List ℕ)). ServesBy (by_line at) start xs outs p.0) is p.2 in
    (q.0, p.0, p.1, serve_all_by (by_line at) start p.0 l.lines outs q, p.3)

pub served_lines : {E : Type 0} (r : Result (List Message) E) (at : Moment) (m mid to : Seen) (bytes : List ℕ) (lines : List (List ℕ)) (x y : List Ear)
    → lines ≡ (lines_of m.guest_line bytes).lines
    → ((b : Board) → state_with b mid ≡ with_line (state_with b m) (lines_of m.guest_line bytes).rest) → mid.board ≡ m.board
    → IfOk r (λ outs. (s : State) → IsIn s mid → ServesTold (by_line at) s lines outs to x y) → (s : State) → IsIn s m
    → IfOk r
    (λ outs. (choices : List Choice) × (t : State) × IsIn t to × (input_step s at (Guest bytes) choices ≡ record { outs = outs; state = t; rest = [] })
    × Hears s.board t.board x y)
served_lines r at m mid to bytes lines x y cuts move same served s here =
    by_board
    (λ (z : State). IfOk r
    (λ outs. (choices : List Choice) × (t : State) × IsIn t to × (input_step z at (Guest bytes) choices ≡ record { outs = outs; state = t; rest = [] })
    × Hears z.board t.board x y)) m
    (λ b stands.
    IfOk-weaker r _ _
    (λ outs h.
    lines_taken at (state_with b m) to bytes lines outs x y cuts
    (h (with_line (state_with b m) (lines_of m.guest_line bytes).rest)
    (subst (λ (z : State). IsIn z mid) (move b) (in_at b mid (subst (Stands b) (sym same) stands))))) served) s here
