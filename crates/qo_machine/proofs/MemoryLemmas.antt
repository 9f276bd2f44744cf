-- What is left where memory ran out.
use Rattle.std.proofs.Common.{◌≡◌, ◌<◌, ℕ, Bool, true, false, List, [], ◌∷◌, ◌++◌, take, drop, refl, sym, subst, ◌∙◌, ap, append_assoc, Option, Result, Ok, Err, inl, inr, OnErr, nat_lt, if◌then◌else◌}
use Rattle.std.proofs.lemmas.Bool.{lt-ltb}
use Rattle.std.proofs.lemmas.List.{take-append-drop}
use Rattle.qo_causes.specs.declared.inputs.Input.{Input}
use Rattle.qo_causes.specs.declared.inputs.Moment.{Moment}
use Rattle.qo_causes.specs.declared.inputs.What.{What}
use Rattle.qo_causes.specs.declared.inputs.What.TheVariants.{Open, Bytes, Shut, Guest, Step, End}
use Rattle.qo_framing.specs.declared.items.Item.{Item}
use Rattle.qo_requests.specs.declared.calls.Call.{Call}
use Rattle.qo_sessions.specs.Acts.{act}
use Rattle.qo_sessions.specs.Sessions.{fed}
use Rattle.qo_sessions.specs.declared.acts.SessionAct.{SessionAct}
use Rattle.qo_sessions.specs.declared.acts.SessionAct.TheVariants.{Answer, Negotiated, Do}
use Rattle.qo_values.specs.declared.codes.Code.{Code}
use Rattle.qo_values.specs.declared.limits.TheConstants.{SESSIONS}
use Rattle.qo_model.specs.Board.{Board}
use Rattle.qo_commands.specs.Lines.{lines_of}
use Rattle.qo_realize.specs.Representation.{Stands}
use Rattle.qo_machine.proofs.MachineLemmas.{by_board, in_at, serve_on_by}
use Rattle.qo_machine.specs.Machine.{BreaksOff, BreaksOffAt, Choice, IsIn, Made, Message, Seen, State, Stepped, by_item, defined, fed_at, item_step, items_at, made_by, mode_of, session_of, state_with, with_line, with_session}
use Rattle.qo_machine.specs.Serving.{CommandLeft, CommandServed, LinesFront, ServesFront, ServesFrontBy, ServesToBy, moved}

-- what follows where memory ran out
pub err_more : {T E P Q : Type 0} (r : Result T E) → (P → Q) → OnErr r P → OnErr r Q
err_more (Ok x) f p = tt
err_more (Err e) f p = f p

-- A command.

-- one that was served, whose messages are lost
pub left_served : (at : Moment) (n : ℕ) (s : State) (command : Call) (id : Option (List ℕ)) (outs : List Message) (m : Seen)
    → CommandServed at n s command id outs m → CommandLeft at n s command id m
left_served at n s command id outs m p = inr (p.0, p.2)

-- Items, and whatever else is served in turn.

-- none was begun
pub front_none_by : {X : Type 0} (f : Choice → State → X → Made) (s : State) (xs : List X) (m : Seen) → IsIn s m → ServesFrontBy f s xs m
front_none_by f s xs m here = ([], xs, [], refl, here)

-- one was done by some choice
pub front_one_by : {X : Type 0} (f : Choice → State → X → Made) (s : State) (x : X) (choice : Choice) (m : Seen) → s.ended ≡ false → IsIn (f choice s x).state m
    → ServesFrontBy f s (x ∷ []) m
front_one_by f s x choice m going here =
    (x ∷ [], [], choice ∷ [], refl, subst (λ (y : State). IsIn y m) (sym (ap (λ (r : Stepped). r.state) (serve_on_by f s x [] (choice ∷ []) going))) here)

-- by what an item comes to
pub item_by : (at : Moment) (n : ℕ) (s : State) (item : Item) (choice : Choice) (what : SessionAct) (m : Seen) → what ≡ act (mode_of s n) item
    → IsIn (made_by choice at n s what).state m → IsIn (item_step choice at n s item).state m
unfolding item_step
item_by at n s item choice what m is here = subst (λ (w : SessionAct). IsIn (made_by choice at n s w).state m) is here

-- an item that was not judged
pub front_unheeded : (at : Moment) (n : ℕ) (m to : Seen) (items : List Item) → ((b : Board) → state_with b to ≡ state_with b m) → to.board ≡ m.board
    → (s : State)
    → IsIn s m → ServesFront at n s items to
front_unheeded at n m to items move same s here =
    by_board (λ (x : State). ServesFront at n x items to) m
    (λ b stands. front_none_by (by_item at n) (state_with b m) items to
    (subst (λ (x : State). IsIn x to) (move b) (in_at b to (subst (Stands b) (sym same) stands)))) s here

-- a refused item, and a negotiation, whose reply is lost
pub front_answer : (at : Moment) (n : ℕ) (m to : Seen) (items : List Item) (code : Code) (id : Option (List ℕ))
    → ((b : Board) → state_with b to ≡ moved (state_with b m) n (Answer code id)) → to.board ≡ m.board → (s : State) → IsIn s m → ServesFront at n s items to
front_answer at n m to items code id move same = front_unheeded at n m to items move same

pub front_negotiation : (at : Moment) (n : ℕ) (m to : Seen) (item : Item) (id : Option (List ℕ)) → m.ended ≡ false
    → ((b : Board) → Negotiated id ≡ act (mode_of (state_with b m) n) item) → ((b : Board) → state_with b to ≡ moved (state_with b m) n (Negotiated id))
    → to.board ≡ m.board → (s : State) → IsIn s m → ServesFront at n s (item ∷ []) to
front_negotiation at n m to item id going is move same s here =
    by_board (λ (x : State). ServesFront at n x (item ∷ []) to) m
    (λ b stands.
    front_one_by (by_item at n) (state_with b m) item defined to going
    (item_by at n (state_with b m) item defined (Negotiated id) to (is b)
    (subst (λ (x : State). IsIn x to) (move b) (in_at b to (subst (Stands b) (sym same) stands))))) s here

-- a command, whose reply is lost
pub front_command : (at : Moment) (n : ℕ) (m mid to : Seen) (item : Item) (command : Call) (id : Option (List ℕ)) → m.ended ≡ false
    → ((b : Board) → Do command id ≡ act (mode_of (state_with b m) n) item) → ((b : Board) → state_with b mid ≡ moved (state_with b m) n (Do command id))
    → mid.board ≡ m.board → ((s : State) → IsIn s mid → CommandLeft at n s command id to) → (s : State) → IsIn s m → ServesFront at n s (item ∷ []) to
front_command at n m mid to item command id going is move same left s here =
    by_board (λ (x : State). ServesFront at n x (item ∷ []) to) m
    (λ b stands.
    by b (left (state_with b m) (subst (λ (x : State). IsIn x mid) (move b) (in_at b mid (subst (Stands b) (sym same) stands))))) s here
  where
    by : (b : Board) → CommandLeft at n (state_with b m) command id to → ServesFront at n (state_with b m) (item ∷ []) to
    by b (inl there) = front_none_by (by_item at n) (state_with b m) (item ∷ []) to there
    by b (inr p) =
        front_one_by (by_item at n) (state_with b m) item p.0 to going (item_by at n (state_with b m) item p.0 (Do command id) to (is b) p.1)

-- some were served, and of the others a front
pub front_on_by : {X : Type 0} (f : Choice → State → X → Made) (s : State) (mid to : Seen) (xs ys : List X) (outs : List Message) → ServesToBy f s xs outs mid
    → ((t : State) → IsIn t mid → ServesFrontBy f t ys to) → ServesFrontBy f s (xs ++ ys) to
front_on_by {X = X} f s mid to xs ys outs p q =
    let r = q p.0 p.1 in (
      xs ++ r.0,
      r.1,
      p.2.0 ++ r.2,
      ap (λ (l : List X). xs ++ l) r.3 ∙ sym (append_assoc xs r.0 r.1),
      subst (λ (y : State). IsIn y to) (sym (ap (λ (y : Stepped). y.state) (p.2.1 r.0 r.2))) r.4,
    )

-- a front of a front
pub front_of_all_by : {X : Type 0} (f : Choice → State → X → Made) (s : State) (m : Seen) (xs : List X) (i : ℕ) → ServesFrontBy f s (take i xs) m
    → ServesFrontBy f s xs m
front_of_all_by {X = X} f s m xs i p = (
  p.0,
  p.1 ++ drop i xs,
  p.2,
  sym (take-append-drop i xs) ∙ ap (λ (l : List X). l ++ drop i xs) p.3 ∙ append_assoc p.0 p.1 (drop i xs),
  p.4,
)

-- Inputs.

-- the board is that before
pub fed_board : (s : State) (n : ℕ) (bytes : List ℕ) → (fed_at s n bytes).board ≡ s.board
fed_board s n bytes = by (nat_lt n SESSIONS)
  where
    by : (t : Bool) → (if t then with_session s n (fed (session_of s n) bytes).session else s).board ≡ s.board
    by true = refl
    by false = refl

-- nothing was begun
pub breaks_before : (s : State) (i : Input) (m to : Seen) → to.board ≡ m.board → IsIn s m → BreaksOff s i to
breaks_before s i m to same here = by (subst (Stands s.board) (sym same) here.stands) i.what
  where
    by : Stands s.board to.board → (w : What) → BreaksOffAt s i.at w to
    by stands (Open n) = stands
    by stands (Bytes n bytes) =
        ([], items_at s n bytes, [], refl, subst (λ (b : Board). Stands b to.board) (sym (fed_board s n bytes)) stands)
    by stands (Shut n) = stands
    by stands (Guest bytes) = ([], (lines_of s.guest_line bytes).lines, [], refl, stands)
    by stands (Step ns) = stands
    by stands End = stands

-- a front of the items was served
pub breaks_in : (at : Moment) (n : ℕ) (m mid to : Seen) (bytes : List ℕ) (items : List Item) → n < SESSIONS
    → ((b : Board) → items ≡ (fed (session_of (state_with b m) n) bytes).items)
    → ((b : Board) → state_with b mid ≡ with_session (state_with b m) n (fed (session_of (state_with b m) n) bytes).session) → mid.board ≡ m.board
    → ((s : State) → IsIn s mid → ServesFront at n s items to) → (s : State) → IsIn s m → BreaksOff s (record { at = at; what = Bytes n bytes }) to
breaks_in at n m mid to bytes items below cuts move same served s here =
    by_board (λ (x : State). BreaksOff x (record { at = at; what = Bytes n bytes }) to) m
    (λ b stands.
    let start = with_session (state_with b m) n (fed (session_of (state_with b m) n) bytes).session in
    let p = served start (subst (λ (x : State). IsIn x mid) (move b) (in_at b mid (subst (Stands b) (sym same) stands))) in (
      p.0,
      p.1,
      p.2,
      rw (lt-ltb n SESSIONS below) (sym (cuts b) ∙ p.3),
      rw (lt-ltb n SESSIONS below) p.4.stands,
    )) s here

-- a front of the lines was
pub breaks_in_lines : (at : Moment) (m mid to : Seen) (bytes : List ℕ) (lines : List (List ℕ)) → lines ≡ (lines_of m.guest_line bytes).lines
    → ((b : Board) → state_with b mid ≡ with_line (state_with b m) (lines_of m.guest_line bytes).rest) → mid.board ≡ m.board
    → ((s : State) → IsIn s mid → LinesFront at s lines to) → (s : State) → IsIn s m → BreaksOff s (record { at = at; what = Guest bytes }) to
breaks_in_lines at m mid to bytes lines cuts move same served s here =
    by_board (λ (x : State). BreaksOff x (record { at = at; what = Guest bytes }) to) m
    (λ b stands.
    let start = with_line (state_with b m) (lines_of m.guest_line bytes).rest in
    let p = served start (subst (λ (x : State). IsIn x mid) (move b) (in_at b mid (subst (Stands b) (sym same) stands))) in
    (p.0, p.1, p.2, sym cuts ∙ p.3, p.4.stands)) s here

-- where the machine ends after it, the objects stay
pub breaks_kept : (s : State) (i : Input) (m to : Seen) → to.board ≡ m.board → BreaksOff s i m → BreaksOff s i to
breaks_kept s i m to same p = by i.what p
  where
    by : (w : What) → BreaksOffAt s i.at w m → BreaksOffAt s i.at w to
    by (Open n) q = subst (Stands s.board) (sym same) q
    by (Bytes n bytes) q = (q.0, q.1, q.2, q.3, subst (Stands _) (sym same) q.4)
    by (Shut n) q = subst (Stands s.board) (sym same) q
    by (Guest bytes) q = (q.0, q.1, q.2, q.3, subst (Stands _) (sym same) q.4)
    by (Step ns) q = subst (Stands s.board) (sym same) q
    by End q = subst (Stands s.board) (sym same) q
