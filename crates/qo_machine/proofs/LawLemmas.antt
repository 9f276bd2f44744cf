-- Opening, shutting, and items that are no commands touch one session.
use Rattle.std.proofs.Common.{◌≡◌, ◌≢◌, ℕ, zero, suc, nat_lt, Bool, true, false, if◌then◌else◌, List, [], ◌∷◌, refl, ap, slice_set, slice_index_or}
use Rattle.qo_values.specs.declared.limits.TheConstants.{SESSIONS}
use Rattle.qo_causes.specs.declared.hubs.Lane.TheVariants.{Session as to_session}
use Rattle.qo_causes.specs.declared.inputs.Moment.{Moment}
use Rattle.qo_causes.specs.declared.inputs.What.TheVariants.{Open, Shut}
use Rattle.qo_replies.specs.Replies.{greeting}
use Rattle.qo_sessions.specs.Acts.{act}
use Rattle.qo_sessions.specs.Sessions.{begun, closed, in_mode}
use Rattle.qo_sessions.specs.Sessions as sessions
use Rattle.qo_sessions.specs.declared.acts.SessionAct.{SessionAct}
use Rattle.qo_sessions.specs.declared.acts.SessionAct.TheVariants.{Answer, Negotiated, Do}
use Rattle.qo_sessions.specs.declared.modes.Mode.{Mode}
use Rattle.qo_sessions.specs.declared.modes.Mode.TheVariants.{Closed, Negotiating, Commanding}
use Rattle.qo_machine.specs.Laws.{Alone, IsOwn, ItemAlone, LanesAreApart, OpenAlone, ShutAlone}
use Rattle.qo_machine.specs.Machine.{Choice, State, Stepped, defined, refused, input_step, item_step, made_by, mode_of, opened, serve_unless, session_of, step, unchanged, with_session}

-- a session that is put changes no other
set_elsewhere : (ss : List sessions.State) (n m : ℕ) (x : sessions.State) → m ≢ n → slice_index_or (slice_set ss n x) m closed ≡ slice_index_or ss m closed
set_elsewhere [] n m x apart = refl
set_elsewhere (s ∷ ss) zero zero x apart = absurd (apart refl)
set_elsewhere (s ∷ ss) zero (suc m) x apart = refl
set_elsewhere (s ∷ ss) (suc n) zero x apart = refl
set_elsewhere (s ∷ ss) (suc n) (suc m) x apart = set_elsewhere ss n m x (λ same. apart (ap suc same))

-- nothing was done
alone_none : (n : ℕ) (s : State) → Alone n s [] s
alone_none n s = record { board = refl; guest_line = refl; ended = refl; sessions = λ m apart. refl; lanes = tt }

-- the session was told something
alone_told : (n : ℕ) (s : State) (text : List ℕ) → Alone n s ((to_session n, text) ∷ []) s
alone_told n s text = record { board = refl; guest_line = refl; ended = refl; sessions = λ m apart. refl; lanes = (refl, tt) }

-- the session was changed
alone_set : (n : ℕ) (s : State) (x : sessions.State) → Alone n s [] (with_session s n x)
alone_set n s x =
    record { board = refl; guest_line = refl; ended = refl; sessions = λ m apart. set_elsewhere s.sessions n m x apart; lanes = tt }

-- the session was changed, and told something
alone_both : (n : ℕ) (s : State) (x : sessions.State) (text : List ℕ) → Alone n s ((to_session n, text) ∷ []) (with_session s n x)
alone_both n s x text =
    record { board = refl; guest_line = refl; ended = refl; sessions = λ m apart. set_elsewhere s.sessions n m x apart; lanes = (refl, tt) }

abbrev AloneBy : ℕ → State → Stepped → Type 0
AloneBy n s r = Alone n s r.outs r.state

open_alone : OpenAlone
unfolding step
open_alone s at n cs = on s.ended
  where
    by_mode : (mode : Mode) → AloneBy n s (opened s n mode cs)
    by_mode Closed = alone_both n s begun greeting
    by_mode Negotiating = alone_none n s
    by_mode Commanding = alone_none n s

    by_number : (t : Bool) → AloneBy n s (if t then opened s n (mode_of s n) cs else unchanged s cs)
    by_number true = by_mode (mode_of s n)
    by_number false = alone_none n s

    on : (e : Bool) → AloneBy n s (serve_unless e (unchanged s cs) (input_step s at (Open n) cs))
    on true = alone_none n s
    on false = by_number (nat_lt n SESSIONS)

shut_alone : ShutAlone
unfolding step
shut_alone s at n cs = on s.ended
  where
    by_number : (t : Bool) → AloneBy n s (if t then unchanged (with_session s n closed) cs else unchanged s cs)
    by_number true = alone_set n s closed
    by_number false = alone_none n s

    on : (e : Bool) → AloneBy n s (serve_unless e (unchanged s cs) (input_step s at (Shut n) cs))
    on true = alone_none n s
    on false = by_number (nat_lt n SESSIONS)

made_alone : (choice : Choice) (at : Moment) (n : ℕ) (s : State) (what : SessionAct) → IsOwn what
    → Alone n s (made_by choice at n s what).outs (made_by choice at n s what).state
made_alone (refused i joined) at n s (Answer code id) own = alone_told n s _
made_alone (refused i joined) at n s (Negotiated id) own = alone_both n s (in_mode Commanding (session_of s n)) _
made_alone (refused i joined) at n s (Do command id) own = absurd own
made_alone defined at n s (Answer code id) own = alone_told n s _
made_alone defined at n s (Negotiated id) own = alone_both n s (in_mode Commanding (session_of s n)) _
made_alone defined at n s (Do command id) own = absurd own

item_alone : ItemAlone
unfolding item_step
item_alone s at n item choice own = made_alone choice at n s (act (mode_of s n) item) own

pub lanes_are_apart : LanesAreApart
lanes_are_apart = (open_alone, shut_alone, item_alone)
