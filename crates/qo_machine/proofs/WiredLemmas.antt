-- The interrupt lines of a machine are those of its board.
use Rattle.std.proofs.Common.{◌≡◌, refl, sym, subst, ◌∙◌, ℕ, true, false, List, [], ◌∷◌, Option, Result, Ok, Err, IfOk, OnOk, OnErr}
use Rattle.qo_causes.specs.declared.inputs.Moment.{Moment}
use Rattle.qo_values.specs.declared.codes.Code.{Code}
use Rattle.qo_commands.specs.Commands.{without_events}
use Rattle.qo_commands.specs.Interrupts.{HasLines}
use Rattle.qo_commands.specs.Touched.{HasShape, IsLeft}
use Rattle.qo_commands.specs.declared.touched.Touched.{Touched}
use Rattle.qo_commands.specs.declared.touched.Touched.TheVariants.{Nothing, Registers}
use Rattle.qo_commands.proofs.DeviceFrameLemmas.{framed-lines}
use Rattle.qo_commands.proofs.FrameLemmas.{advanced-frame}
use Rattle.qo_commands.proofs.InterruptLemmas.{by-lines, left-after, left-beside}
use Rattle.qo_layout.specs.Rows.{Wired}
use Rattle.qo_commands.specs.KeptViews.{HasView}
use Rattle.qo_commands.proofs.KeptViewLemmas.{view-same}
use Rattle.qo_layout.proofs.SameViewLemmas.{same_view_lem}
use Rattle.qo_layout.specs.Kept.{Kept}
use Rattle.qo_model.specs.Board.{Board}
use Rattle.qo_model.specs.Objects.{Changed}
use Rattle.qo_realize.specs.Parts.{Parts}
use Rattle.qo_machine.proofs.PreservationLemmas.{advanced-all}
use Rattle.qo_realize.specs.Representation.{Stands, StandsForGood}
use Rattle.qo_realize.specs.Time.{Advances, advanced}
use Rattle.qo_requests.specs.declared.calls.Call.{Call}
use Rattle.qo_machine.specs.Between.{IsWired}
use Rattle.qo_machine.specs.Machine.{Choice, IsIn, Made, Message, Seen, State, state_with}
use Rattle.qo_machine.specs.Serving.{CommandServed, ServesFrontBy, ServesToBy}
use Rattle.qo_machine.specs.declared.machines.Reply.{Reply}
use Rattle.qo_machine.proofs.BoardLemmas.{board_free}
use Rattle.qo_machine.proofs.MemoryLemmas.{front_none_by, front_on_by}

-- where the board stays, and the lines
pub wired_kept : (m n : Seen) → n.board ≡ m.board → n.lines ≡ m.lines → IsWired m → IsWired n
wired_kept m n board lines w = subst (λ (p : Parts). HasLines p n.lines) (sym board) (subst (HasLines m.board) (sym lines) w)

pub wired_ok : {T E : Type 0} (r : Result T E) (m n : Seen) → n.board ≡ m.board → n.lines ≡ m.lines → IsWired m → OnOk r (IsWired n)
wired_ok (Ok x) m n board lines w = wired_kept m n board lines w
wired_ok (Err e) m n board lines w = tt

-- and so is what is left of them, also where the events that wait are told
pub left_kept : (t : Touched) (m n : Seen) → n.board ≡ m.board → n.lines ≡ m.lines → IsLeft t m.board m.lines → IsLeft t n.board n.lines
left_kept t m n board lines h = subst (λ (p : Parts). IsLeft t p n.lines) (sym board) (subst (IsLeft t m.board) (sym lines) h)

pub left_told : (t : Touched) (m n : Seen) → ((b : Board) → Stands b m.board → Stands (without_events b) n.board) → n.lines ≡ m.lines
    → IsLeft t m.board m.lines → IsLeft t n.board n.lines
left_told t m n told lines h =
    subst (IsLeft t n.board) (sym lines) (left-beside t m.board n.board m.lines without_events (λ b. (refl, refl)) board_free told h)

-- what is only asked touches nothing
pub left_answered : {E : Type 0} (r : Result Reply E) (p : Parts) (l : Wired) → IfOk r (λ x. x.touched ≡ Nothing) → HasLines p l
    → IfOk r (λ x. IsLeft x.touched p l)
left_answered (Ok x) p l none h = subst (λ (t : Touched). IsLeft t p l) (sym none) h
left_answered (Err e) p l none h = tt

-- so they are after a step that did not run out of memory, which is told by what it answers
pub wired_unless : {T E : Type 0} (r : Result T E) (m : Seen) → OnOk r (IsWired m) → OnErr r (m.out_of_memory ≡ true) → m.out_of_memory ≡ false → IsWired m
wired_unless (Ok x) m wired out_of_memory lasts = wired
wired_unless (Err e) m wired out_of_memory lasts = absurd (let clash : true ≡ false = sym out_of_memory ∙ lasts in cc)

-- the time went on, or did not, and this board stands
pub advances_stands : (d : Changed) (r : Result ℕ Code) (p : Parts) → Advances d r p → Stands d.board p
advances_stands d (Ok time) p a = a.1
advances_stands d (Err code) p a = a.1

-- the time goes on, and the lines are made for the same objects
pub shaped_later : (p q : Parts) (l : Wired) (ns : ℕ) → ((b : Board) → Stands b p → Stands (advanced b ns).board q) → StandsForGood q → HasLines p l
    → HasShape q l
shaped_later p q l ns goes good h =
    left-after Registers p q l h good
    (λ b sound stands. record { board = (advanced b ns).board; touches = framed-lines b (advanced b ns).board (advanced-frame b ns); stands = goes b stands })

-- The view.

-- what is kept of the view stays right where the time goes on, and where the events that wait are told
pub view_later : (p q : Parts) (l : Wired) (kept : Kept) (ns : ℕ) → HasLines p l → ((b : Board) → Stands b p → Stands (advanced b ns).board q)
    → HasView p kept → HasView q kept
view_later p q l kept ns lines goes has =
    by-lines (λ w. HasView q kept) p l lines
    (λ b stands sound are.
    view-same p q kept b (advanced b ns).board stands (goes b stands)
    (same_view_lem.beside b (advanced b ns).board (advanced-all (λ (x : Board). b.records ≡ x.records) b ns refl (λ low. refl))) has)

pub view_told : (p q : Parts) (kept : Kept) → StandsForGood p → ((b : Board) → Stands b p → Stands (without_events b) q) → HasView p kept
    → HasView q kept
view_told p q kept (b, stands, good) told has =
    view-same p q kept b (without_events b) stands (told b stands) (same_view_lem.beside b (without_events b) refl) has

-- Served, and settled then.

-- a machine is in the same states where its board stays, and the rest
pub in_same : (s : State) (m n : Seen) → n.board ≡ m.board → ((b : Board) → state_with b n ≡ state_with b m) → IsIn s m → IsIn s n
in_same s m n board rest here =
    record { stands = subst (Stands s.board) (sym board) here.stands; rest = here.rest ∙ sym (rest s.board) }

-- so what a command came to stays
pub settled_command : (at : Moment) (n : ℕ) (s : State) (command : Call) (id : Option (List ℕ)) (outs : List Message) (m to : Seen)
    → to.board ≡ m.board → ((b : Board) → state_with b to ≡ state_with b m) → CommandServed at n s command id outs m → CommandServed at n s command id outs to
settled_command at n s command id outs m to board rest p = (p.0, p.1, in_same _ m to board rest p.2)

pub settled_lines : {X : Type 0} (f : Choice → State → X → Made) (s : State) (xs : List X) (outs : List Message) (m to : Seen)
    → to.board ≡ m.board → ((b : Board) → state_with b to ≡ state_with b m) → ServesToBy f s xs outs m → ServesToBy f s xs outs to
settled_lines f s xs outs m to board rest p = (p.0, in_same p.0 m to board rest p.1, p.2)

-- one was served, and then memory ran out
pub front_settled : {X : Type 0} (f : Choice → State → X → Made) (s : State) (x : X) (outs : List Message) (m to : Seen)
    → to.board ≡ m.board → ((b : Board) → state_with b to ≡ state_with b m) → ServesToBy f s (x ∷ []) outs m → ServesFrontBy f s (x ∷ []) to
front_settled f s x outs m to board rest p =
    front_on_by f s m to (x ∷ []) [] outs p (λ t here. front_none_by f t [] to (in_same t m to board rest here))
