-- What listeners hear of items and lines that are served, and of steps.
use Rattle.std.proofs.Common.{◌≡◌, refl, sym, ap, subst, ◌∙◌, ℕ, ◌+◌, ◌<◌, Bool, true, false, if◌then◌else◌, nat_lt, List, [], ◌∷◌, ◌++◌, length, take, drop, append-nil, append_assoc, Result, Ok, Err, IfOk, OnOk, OnErr, slice_index_or, arith}
use Rattle.std.specs.Bool.{⊤}
use Rattle.std.proofs.lemmas.Bool.{lt-ltb}
use Rattle.std.proofs.lemmas.List.{take-append-drop}
use Rattle.std.proofs.lemmas.Result.{IfOk-weaker}
use Rattle.qo_causes.specs.declared.inputs.Input.{Input}
use Rattle.qo_causes.specs.declared.inputs.Moment.{Moment}
use Rattle.qo_causes.specs.declared.inputs.What.{What}
use Rattle.qo_causes.specs.declared.inputs.What.TheVariants.{Open, Bytes, Shut, Guest, Step, End}
use Rattle.qo_values.specs.declared.limits.TheConstants.{SESSIONS}
use Rattle.qo_model.specs.Board.{Board}
use Rattle.qo_model.specs.Notes.{total_of}
use Rattle.qo_model.specs.declared.notes.Note.{Note}
use Rattle.qo_listen.specs.Ears.{AllHeard, Ear}
use Rattle.qo_telling.specs.Telling.{HeardFronts, IsCounted, IsNew}
use Rattle.qo_realize.specs.Representation.{Stands, StandsForGood}
use Rattle.qo_realize.specs.SoundBoard.{SoundBoard}
use Rattle.qo_realize.proofs.GoodBoardLemmas.{good-of}
use Rattle.qo_sessions.specs.Sessions.{closed, fed}
use Rattle.qo_sessions.specs.declared.modes.Mode.{Mode}
use Rattle.qo_sessions.specs.declared.modes.Mode.TheVariants.{Closed, Negotiating, Commanding}
use Rattle.qo_commands.specs.Lines.{lines_of}
use Rattle.qo_framing.specs.declared.items.Item.{Item}
use Rattle.qo_machine.specs.Later.{IsLater}
use Rattle.qo_machine.specs.Listening.{AnswersTold, Follows, HearsFront, ServesHeardFront, ServesTold, StepHeardFront}
use Rattle.qo_machine.specs.Machine.{Answers, Choice, IsIn, Made, Message, Seen, State, Stepped, by_item, by_line, first, input_step, mode_of, opened, others, preceded, serve_by, session_of, state_with, step, taken, unchanged, with_line, with_session}
use Rattle.qo_machine.specs.Serving.{ServesBy, ServesFrontBy, ServesToBy}
use Rattle.qo_machine.proofs.ChunkLemmas.{serve_more}
use Rattle.qo_machine.proofs.FewLemmas.{item_follows, line_follows}
use Rattle.qo_machine.proofs.HeardLemmas.{front-later, front-then, hears-none, hears-then, new-notes, unheard}
use Rattle.qo_machine.proofs.HistoryLemmas.{item_later, later-then, later_in_runs, later_same, line_later}
use Rattle.qo_machine.proofs.MachineLemmas.{by_board, in_at, serve_all_by, serves_more_by, step_ended, step_on, take_one}
use Rattle.qo_machine.proofs.MemoryLemmas.{err_more}
use Rattle.qo_machine.proofs.PreservationLemmas.{advanced-all, serve_board_by, unless_board}

-- Items, and whatever else is served in turn.

-- the board follows the one before an item, or a line
abbrev pub EachFollows : {X : Type 0} → (Choice → State → X → Made) → Type 0
EachFollows {X = X} f = (choice : Choice) (s : State) (x : X) → SoundBoard s.board → Follows s.board (f choice s x).state.board

-- and is later than it
abbrev pub EachLater : {X : Type 0} → (Choice → State → X → Made) → Type 0
EachLater {X = X} f = (choice : Choice) (s : State) (x : X) → IsLater s.board (f choice s x).state.board

module _ {X : Type 0} (f : Choice → State → X → Made) where
  one-follows : EachFollows f → (s : State) (x : X) (cs : List Choice) → SoundBoard s.board → Follows s.board (serve_by f (x ∷ []) s cs).state.board
  one-follows follows s x cs good =
      unless_board (λ (c : Board). Follows s.board c) s.ended (unchanged s cs)
      (preceded (f (first cs) s x).outs (serve_by f [] (f (first cs) s x).state (others cs)))
      ([], sym (append-nil s.board.notes), omega arith) (follows (first cs) s x good)

  pub serves-later : EachLater f → (xs : List X) (s : State) (cs : List Choice) → IsLater s.board (serve_by f xs s cs).state.board
  serves-later later xs s cs =
      serve_board_by (IsLater s.board) f (λ choice t x h. later-then s.board t.board (f choice t x).state.board h (later choice t x)) xs s cs
      (later_same s.board)

  -- by what choices it was served, the state is that
  state-is : (s t : State) (xs : List X) (outs : List Message) → (p : ServesBy f s xs outs t) → (serve_by f xs s p.0).state ≡ t
  state-is s t xs outs p = ap (λ (r : Stepped). r.state) (serve_all_by f s t xs outs p)

  -- one was served, and then what was noted was told
  module _ (m mid : Seen) (from : ℕ) (x : X) (outs : List Message) (olds news : List Ear) (follows : EachFollows f) (good : StandsForGood m.board)
      (total : (b : Board) → Stands b m.board → from ≡ total_of b.notes) (served : (s : State) → IsIn s m → ServesToBy f s (x ∷ []) outs mid) where
    noted : (s : State) → (here : IsIn s m) → Follows s.board (served s here).0.board
    noted s here =
        let p = served s here in
        subst (λ (y : State). Follows s.board y.board) (state-is s p.0 (x ∷ []) outs p.2)
        (one-follows follows s x p.2.0 (good-of m.board good s.board here.stands))

    is-new : (s : State) → (here : IsIn s m) → IsCounted (served s here).0.board → IsNew (served s here).0.board from (noted s here).0
    is-new s here counted = new-notes s.board (served s here).0.board from (total s.board here.stands) (noted s here) counted

    pub told-one : {E : Type 0} (r : Result (Unit {0}) E)
        → ((b : Board) (more : List Note) → Stands b mid.board → IsNew b from more → OnOk r (AllHeard more olds news))
        → OnOk r ((s : State) → IsIn s m → ServesTold f s (x ∷ []) outs mid olds news)
    told-one (Ok u) told = λ s here.
        let p = served s here in
        let n = noted s here in
        (p.0, p.1, p.2, (n.0, n.1, λ counted. told p.0.board n.0 p.1.stands (is-new s here counted)))
    told-one (Err e) told = tt

    -- or a front of it
    pub front-one : {E : Type 0} (r : Result (Unit {0}) E)
        → ((b : Board) (more : List Note) → Stands b mid.board → IsNew b from more → OnErr r (HeardFronts more olds news))
        → OnErr r ((s : State) → IsIn s m → ServesHeardFront f s (x ∷ []) olds news)
    front-one (Ok u) left = tt
    front-one (Err e) left = λ s here.
        let p = served s here in
        let n = noted s here in (
          p.2.0,
          subst (λ (y : State). HearsFront s.board y.board olds news) (sym (state-is s p.0 (x ∷ []) outs p.2))
              (n.0, n.1, λ counted. left p.0.board n.0 p.1.stands (is-new s here counted)),
        )

  -- what was served whole is a front
  pub front-whole : (s : State) (m : Seen) (xs : List X) (outs : List Message) → ServesToBy f s xs outs m → ServesFrontBy f s xs m
  front-whole s m xs outs p = (
    xs,
    [],
    p.2.0,
    sym (append-nil xs),
    subst (λ (y : State). IsIn y m) (sym (state-is s p.0 xs outs p.2)) p.1,
  )

  -- nothing was told
  pub front-unheard : EachLater f → (xs : List X) (x : List Ear) (s : State) → ServesHeardFront f s xs x x
  front-unheard later xs x s = ([], unheard s.board (serve_by f xs s []).state.board (serves-later later xs s []) x)

  -- none was served
  pub told-none : (s : State) (m : Seen) (x : List Ear) → IsIn s m → ServesTold f s [] [] m x x
  told-none s m x here = (s, here, ([], λ further rest. refl), hears-none s.board s.board refl x)

  -- they were served
  pub told-serves : (s : State) (m : Seen) (xs : List X) (outs : List Message) (x y : List Ear) → ServesTold f s xs outs m x y → ServesToBy f s xs outs m
  told-serves s m xs outs x y p = (p.0, p.1, p.2)

  -- some were served and told, and one more
  pub told-on : (s : State) (mid to : Seen) (xs ys : List X) (a b : List Message) (x y z : List Ear) → ServesTold f s xs a mid x y
      → ((t : State) → IsIn t mid → ServesTold f t ys b to y z) → ServesTold f s (xs ++ ys) (a ++ b) to x z
  told-on s mid to xs ys a b x y z p q =
      let next = q p.0 p.1 in
      (next.0, next.1, serves_more_by f s p.0 next.0 xs ys a b p.2 next.2, hears-then s.board p.0.board next.0.board x y z p.3 next.3)

  -- some were served and told, and of others a front was told
  pub heard-on : EachLater f → (s : State) (mid : Seen) (xs ys zs : List X) (a : List Message) (x y z : List Ear) → ServesTold f s xs a mid x y
      → ((t : State) → IsIn t mid → ServesHeardFront f t ys y z) → ServesHeardFront f s (xs ++ (ys ++ zs)) x z
  heard-on later s mid xs ys zs a x y z p q =
      let t = p.0 in
      let h = q t p.1 in
      let some : Stepped = serve_by f ys t h.0 in
      let all : Stepped = serve_by f zs some.state some.rest in
      let whole : (serve_by f (xs ++ (ys ++ zs)) s (p.2.0 ++ h.0)).state ≡ all.state =
      ap (λ (r : Stepped). r.state) (p.2.1 (ys ++ zs) h.0) ∙ ap (λ (r : Stepped). r.state) (serve_more f ys zs t h.0) in (
        p.2.0 ++ h.0,
        subst (λ (u : State). HearsFront s.board u.board x z) (sym whole)
            (front-later s.board some.state.board all.state.board x z (front-then s.board t.board some.state.board x y z p.3 h.1)
            (serves-later later zs some.state some.rest)),
      )

  -- so up to a place
  pub heard-upto : EachLater f → (s : State) (mid : Seen) (xs : List X) (i : ℕ) (next : X) (a : List Message) (x y z : List Ear) → i < length xs
      → next ≡ slice_index_or xs i next → ServesTold f s (take i xs) a mid x y → ((t : State) → IsIn t mid → ServesHeardFront f t (next ∷ []) y z)
      → ServesHeardFront f s xs x z
  heard-upto later s mid xs i next a x y z below is p q =
      let whole : take i xs ++ ((next ∷ []) ++ drop (i + 1) xs) ≡ xs =
      sym (append_assoc (take i xs) (next ∷ []) (drop (i + 1) xs)) ∙ ap (λ (l : List X). l ++ drop (i + 1) xs) (sym (take_one xs i next below is))
      ∙ take-append-drop (i + 1) xs in
      subst (λ (l : List X). ServesHeardFront f s l x z) whole (heard-on later s mid (take i xs) (next ∷ []) (drop (i + 1) xs) a x y z p q)

-- Steps.

-- a step that notes nothing
pub answers-unheard : (s : State) (i : Input) (outs : List Message) (m : Seen) (x : List Ear)
    → ((cs : List Choice) → (step s i cs).state.board.notes ≡ s.board.notes) → Answers s i outs m → AnswersTold s i outs m x x
answers-unheard s i outs m x quiet a = (a.0, a.1, a.2, hears-none s.board (step s i a.0).state.board (quiet a.0) x)

pub answers-told : (s : State) (i : Input) (outs : List Message) (m : Seen) (x y : List Ear) → AnswersTold s i outs m x y → Answers s i outs m
answers-told s i outs m x y a = (a.0, a.1, a.2)

-- after the end
pub quiet-ended : (s : State) (i : Input) → s.ended ≡ true → (cs : List Choice) → (step s i cs).state.board.notes ≡ s.board.notes
quiet-ended s i over cs = ap (λ (r : Stepped). r.state.board.notes) (step_ended s i cs over)

-- what opens, shuts and ends, and a step of the time, note nothing
abbrev pub IsQuiet : What → Type 0
IsQuiet (Bytes n bytes) = ⊥
IsQuiet (Guest bytes) = ⊥
IsQuiet what = ⊤

pub quiet-step : (s : State) (i : Input) (w : What) → i.what ≡ w → IsQuiet w → (cs : List Choice) → (step s i cs).state.board.notes ≡ s.board.notes
unfolding step
quiet-step s i w is quiet cs =
    unless_board (λ (c : Board). c.notes ≡ s.board.notes) s.ended (unchanged s cs) (input_step s i.at i.what cs) refl
    (subst (λ (v : What). (input_step s i.at v cs).state.board.notes ≡ s.board.notes) (sym is) (by w quiet))
  where
    opens : (n : ℕ) (mode : Mode) (t : Bool) → (if t then opened s n mode cs else unchanged s cs).state.board.notes ≡ s.board.notes
    opens n Closed true = refl
    opens n Negotiating true = refl
    opens n Commanding true = refl
    opens n mode false = refl

    shuts : (n : ℕ) (t : Bool) → (if t then unchanged (with_session s n closed) cs else unchanged s cs).state.board.notes ≡ s.board.notes
    shuts n true = refl
    shuts n false = refl

    by : (v : What) → IsQuiet v → (input_step s i.at v cs).state.board.notes ≡ s.board.notes
    by (Open n) q = opens n (mode_of s n) (nat_lt n SESSIONS)
    by (Bytes n bytes) q = absurd q
    by (Shut n) q = shuts n (nat_lt n SESSIONS)
    by (Guest bytes) q = absurd q
    by (Step ns) q = advanced-all (λ (c : Board). c.notes ≡ s.board.notes) s.board ns refl (λ low. refl)
    by End q = refl

-- so each listener is as before
pub unheard-ok : {E : Type 0} (r : Result (List Message) E) (s : State) (i : Input) (w : What) (m : Seen) (x : List Ear) → i.what ≡ w → IsQuiet w
    → IfOk r (λ outs. Answers s i outs m) → IfOk r (λ outs. AnswersTold s i outs m x x)
unheard-ok r s i w m x is quiet h = IfOk-weaker r _ _ (λ outs a. answers-unheard s i outs m x (quiet-step s i w is quiet) a) h

-- want of memory before anything was told
pub step-unheard : (s : State) (i : Input) (x : List Ear) → StepHeardFront s i x x
step-unheard s i x = ([], unheard s.board (step s i []).state.board (later_in_runs.step s i []) x)

-- by what the input is
pub heard-by : (s : State) (i : Input) (w : What) (x y : List Ear) → s.ended ≡ false → i.what ≡ w
    → (choices : List Choice) × HearsFront s.board (input_step s i.at w choices).state.board x y → StepHeardFront s i x y
heard-by s i w x y going is h =
    (h.0, subst (λ (r : Stepped). HearsFront s.board r.state.board x y) (sym (step_on s i w h.0 going is)) h.1)

-- Bytes.

pub items-follow : (at : Moment) (n : ℕ) → EachFollows (by_item at n)
items-follow at n choice s item good = item_follows choice at n s item good

pub items-later : (at : Moment) (n : ℕ) → EachLater (by_item at n)
items-later at n choice s item = item_later choice at n s item

pub lines-follow : (at : Moment) → EachFollows (by_line at)
lines-follow at choice s line good = line_follows choice at s line good

pub lines-later : (at : Moment) → EachLater (by_line at)
lines-later at choice s line = line_later choice at s line

-- those of a session, none of which was served, and those of the guest
bytes-later : (s : State) (at : Moment) (n : ℕ) (bytes : List ℕ) (cs : List Choice) → IsLater s.board (input_step s at (Bytes n bytes) cs).state.board
bytes-later s at n bytes cs = by (nat_lt n SESSIONS)
  where
    by : (t : Bool) → IsLater s.board (if t then taken at s n bytes cs else unchanged s cs).state.board
    by true =
        serves-later (by_item at n) (items-later at n) (fed (session_of s n) bytes).items (with_session s n (fed (session_of s n) bytes).session) cs
    by false = later_same s.board

pub bytes-unheard : (s : State) (at : Moment) (n : ℕ) (bytes : List ℕ) (x : List Ear)
    → (choices : List Choice) × HearsFront s.board (input_step s at (Bytes n bytes) choices).state.board x x
bytes-unheard s at n bytes x = ([], unheard s.board (input_step s at (Bytes n bytes) []).state.board (bytes-later s at n bytes []) x)

pub guest-unheard : (s : State) (at : Moment) (bytes : List ℕ) (x : List Ear)
    → (choices : List Choice) × HearsFront s.board (input_step s at (Guest bytes) choices).state.board x x
guest-unheard s at bytes x = (
  [],
  unheard s.board (input_step s at (Guest bytes) []).state.board
      (serves-later (by_line at) (lines-later at) (lines_of s.guest_line bytes).lines (with_line s (lines_of s.guest_line bytes).rest) []) x,
)

-- of the items that they complete a front was told, and of the lines
pub items_heard : {T E : Type 0} (r : Result T E) (at : Moment) (n : ℕ) (m mid : Seen) (bytes : List ℕ) (items : List Item) (x y : List Ear) → n < SESSIONS
    → ((b : Board) → items ≡ (fed (session_of (state_with b m) n) bytes).items)
    → ((b : Board) → state_with b mid ≡ with_session (state_with b m) n (fed (session_of (state_with b m) n) bytes).session) → mid.board ≡ m.board
    → OnErr r ((s : State) → IsIn s mid → ServesHeardFront (by_item at n) s items x y) → (s : State) → IsIn s m
    → OnErr r ((choices : List Choice) × HearsFront s.board (input_step s at (Bytes n bytes) choices).state.board x y)
items_heard (Ok v) at n m mid bytes items x y below cuts move same heard s here = tt
items_heard (Err e) at n m mid bytes items x y below cuts move same heard s here =
    by_board (λ (z : State). (choices : List Choice) × HearsFront z.board (input_step z at (Bytes n bytes) choices).state.board x y) m
    (λ b stands.
    let start = with_session (state_with b m) n (fed (session_of (state_with b m) n) bytes).session in
    let h = heard start (subst (λ (z : State). IsIn z mid) (move b) (in_at b mid (subst (Stands b) (sym same) stands))) in (
      h.0,
      rw (lt-ltb n SESSIONS below)
          (subst (λ (js : List Item). HearsFront b (serve_by (by_item at n) js start h.0).state.board x y) (cuts b) h.1),
    )) s here

pub lines_heard : {T E : Type 0} (r : Result T E) (at : Moment) (m mid : Seen) (bytes : List ℕ) (lines : List (List ℕ)) (x y : List Ear)
    → lines ≡ (lines_of m.guest_line bytes).lines
    → ((b : Board) → state_with b mid ≡ with_line (state_with b m) (lines_of m.guest_line bytes).rest) → mid.board ≡ m.board
    → OnErr r ((s : State) → IsIn s mid → ServesHeardFront (by_line at) s lines x y) → (s : State) → IsIn s m
    → OnErr r ((choices : List Choice) × HearsFront s.board (input_step s at (Guest bytes) choices).state.board x y)
lines_heard (Ok v) at m mid bytes lines x y cuts move same heard s here = tt
lines_heard (Err e) at m mid bytes lines x y cuts move same heard s here =
    by_board (λ (z : State). (choices : List Choice) × HearsFront z.board (input_step z at (Guest bytes) choices).state.board x y) m
    (λ b stands.
    let start = with_line (state_with b m) (lines_of m.guest_line bytes).rest in
    let h = heard start (subst (λ (z : State). IsIn z mid) (move b) (in_at b mid (subst (Stands b) (sym same) stands))) in
    (h.0, subst (λ (ls : List (List ℕ)). HearsFront b (serve_by (by_line at) ls start h.0).state.board x y) cuts h.1)) s here

-- where the input was bytes that were not served whole
pub heard_bytes : {T E : Type 0} (r : Result T E) (i : Input) (w : What) (m : Seen) (x y : List Ear) → m.ended ≡ false → i.what ≡ w
    → ((s : State) → IsIn s m → OnErr r ((choices : List Choice) × HearsFront s.board (input_step s i.at w choices).state.board x y)) → (s : State) → IsIn s m
    → OnErr r (StepHeardFront s i x y)
heard_bytes r i w m x y going is heard s here =
    err_more r (heard-by s i w x y (ap (λ (z : State). z.ended) here.rest ∙ going) is) (heard s here)
