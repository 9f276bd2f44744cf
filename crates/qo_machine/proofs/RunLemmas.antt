-- Runs: one turn after another.
use Rattle.std.proofs.Common.{◌≡◌, ℕ, zero, suc, ◌+◌, ◌<◌, ◌≤◌, Bool, true, false, if◌then◌else◌, ◌||◌, List, [], ◌∷◌, ◌++◌, length, take, refl, sym, ◌∙◌, ap, subst, add-one, arith, append_assoc, length-append, Option, None, Some, Result, Ok, Err, option_map, slice_index_or, slice_set, replicate}
use Rattle.std.specs.Prelude.{option_to_list}
use Rattle.std.proofs.lemmas.Bool.{true≢false}
use Rattle.std.proofs.lemmas.List.{append-nil, length-set}
use Rattle.std.specs.Io.KnownBytes.{append_known}
use Rattle.std.specs.List.{cons_option}
use Rattle.qo_values.specs.declared.limits.TheConstants.{SESSIONS}
use Rattle.qo_machine.proofs.MachineLemmas.{step_ended, step_on}
use Rattle.qo_causes.proofs.BytesLemmas.{append_known_twice}
use Rattle.qo_causes.specs.Hub.{AtEnd, Gives, given_by, is_end}
use Rattle.qo_causes.specs.Names.{Given, Names}
use Rattle.qo_causes.specs.declared.hubs.Lane.{Lane}
use Rattle.qo_causes.specs.declared.inputs.Input.{Input}
use Rattle.qo_causes.specs.declared.inputs.What.{What}
use Rattle.qo_causes.specs.declared.inputs.What.TheVariants.{Open, Bytes, Shut, Guest as GuestLine, Step, End}
use Rattle.qo_machine.specs.Machine.{IsIn, Message, Seen, State, Stepped, Choice, opening, step}
use Rattle.qo_model.specs.Board.{Board}
use Rattle.qo_listen.specs.Ears.{Ear}
use Rattle.qo_machine.proofs.HeardLemmas.{front-then, heard-all, heard-none-so, heard-so, hears-none, hears-then}
use Rattle.qo_machine.specs.Listening.{CutRunTold, HeardSo, Hears, RunTold, TurnTold, board_after}
use Rattle.qo_machine.specs.Runs.{AllLostHad, Cut, RunMeets, Told, Turn, Turns, after, close_lost, closed_where, cut_to, has_end, is_lost, known, lane_at, lane_bytes, lane_of, outs_at, outs_of, risen, risen_by, state_after, transcript, transcript_at, transcript_of, turn_inputs}
use Rattle.qo_machine.specs.Sending.{Sent, SentFront}
use Rattle.qo_machine.specs.declared.running.Ending.{Ending}
use Rattle.qo_machine.specs.declared.running.Ending.TheVariants.{Done, Bad, Memory, NextFailed, SendFailed, Limit}
use Rattle.qo_sessions.specs.Sessions.{State as Session, closed}

-- one flag more
pub closed_more : (i : ℕ) (lost : List Bool) (sessions : List Session) → i < length lost → i < length sessions
    → closed_where (take (i + 1) lost) sessions
    ≡ (if slice_index_or lost i false then slice_set (closed_where (take i lost) sessions) i closed else closed_where (take i lost) sessions)
unfolding closed_where
closed_more i lost sessions below within = rw add-one (go i lost sessions below within)
  where
    head : (flag : Bool) (mode : Session) (modes : List Session) → (if flag then closed else mode) ∷ modes ≡ (if flag then closed ∷ modes else mode ∷ modes)
    head true mode modes = refl
    head false mode modes = refl

    tail : (flag : Bool) (mode : Session) (set kept : List Session) → mode ∷ (if flag then set else kept) ≡ (if flag then mode ∷ set else mode ∷ kept)
    tail true mode set kept = refl
    tail false mode set kept = refl

    go : (k : ℕ) (ls : List Bool) (ss : List Session) → k < length ls → k < length ss
        → closed_where (take (suc k) ls) ss
        ≡ (if slice_index_or ls k false then slice_set (closed_where (take k ls) ss) k closed else closed_where (take k ls) ss)
    go k [] ss b w = absurd (omega arith)
    go k (f ∷ ls) [] b w = absurd (omega arith)
    go zero (f ∷ ls) (s ∷ ss) b w = head f s ss
    go (suc k) (f ∷ ls) (s ∷ ss) b w =
        ap (λ (rest : List Session). (if f then closed else s) ∷ rest) (go k ls ss (omega arith) (omega arith))
        ∙ tail (slice_index_or ls k false) (if f then closed else s) (slice_set (closed_where (take k ls) ss) k closed) (closed_where (take k ls) ss)

-- What some turns do, and then more.

pub state_more : (ts us : List Turn) (s : State) → state_after s (ts ++ us) ≡ state_after (state_after s ts) us
state_more [] us s = refl
state_more (t ∷ ts) us s = state_more ts us (after s t)

pub outs_more : (ts us : List Turn) (s : State) → outs_of s (ts ++ us) ≡ outs_of s ts ++ outs_of (state_after s ts) us
outs_more [] us s = refl
outs_more (t ∷ ts) us s =
    ap (λ (outs : List Message). outs_at s t ++ outs) (outs_more ts us (after s t))
    ∙ sym (append_assoc (outs_at s t) (outs_of (after s t) ts) (outs_of (state_after (after s t) ts) us))

pub lines_more : (ts us : List Turn) (s : State) → transcript_of s (ts ++ us) ≡ transcript_of s ts ++ transcript_of (state_after s ts) us
lines_more [] us s = refl
lines_more (t ∷ ts) us s =
    ap (λ (lines : List ℕ). transcript_at s t ++ lines) (lines_more ts us (after s t))
    ∙ sym (append_assoc (transcript_at s t) (transcript_of (after s t) ts) (transcript_of (state_after (after s t) ts) us))

lane_more : (ts us : List Turn) (l : Lane) (s : State) → lane_of l s (ts ++ us) ≡ lane_of l s ts ++ lane_of l (state_after s ts) us
lane_more [] us l s = refl
lane_more (t ∷ ts) us l s =
    ap (λ (bytes : List ℕ). lane_at l s t ++ bytes) (lane_more ts us l (after s t))
    ∙ sym (append_assoc (lane_at l s t) (lane_of l (after s t) ts) (lane_of l (state_after (after s t) ts) us))

risen_more : (ts us : List Turn) (n count : ℕ) → risen_by n count (ts ++ us) ≡ risen_by n (risen_by n count ts) us
risen_more [] us n count = refl
risen_more (t ∷ ts) us n count = risen_more ts us n (risen (slice_index_or t.lost n false) count)

risen_le : (flag : Bool) (m n : ℕ) → m ≤ n → risen flag m ≤ risen flag n
risen_le true m n h = omega arith
risen_le false m n h = h

risen_by_le : (ts : List Turn) (n x y : ℕ) → x ≤ y → risen_by n x ts ≤ risen_by n y ts
risen_by_le [] n x y h = h
risen_by_le (t ∷ ts) n x y h =
    risen_by_le ts n (risen (slice_index_or t.lost n false) x) (risen (slice_index_or t.lost n false) y) (risen_le (slice_index_or t.lost n false) x y h)

had_more : (ts us : List Turn) (s : State) → AllLostHad s ts → AllLostHad (state_after s ts) us → AllLostHad s (ts ++ us)
had_more [] us s p q = q
had_more (t ∷ ts) us s p q = (p.0, had_more ts us (after s t) p.1 q)

inputs_more : (ts us : List Turn) → turn_inputs (ts ++ us) ≡ turn_inputs ts ++ turn_inputs us
inputs_more [] us = refl
inputs_more (t ∷ ts) us = first (given_by t.input t.names) (turn_inputs ts) (turn_inputs us) (turn_inputs (ts ++ us)) (inputs_more ts us)
  where
    first : (i : Option Given) (xs ys zs : List Given) → zs ≡ xs ++ ys → cons_option i zs ≡ cons_option i xs ++ ys
    first None xs ys zs h = h
    first (Some x) xs ys zs h = ap (λ (l : List Given). x ∷ l) h

pub took_twice : (a b c : Option (List Given)) (xs ys : List Given) → a ≡ option_map (λ (r : List Given). xs ++ r) b
    → b ≡ option_map (λ (r : List Given). ys ++ r) c → a ≡ option_map (λ (r : List Given). (xs ++ ys) ++ r) c
took_twice a b None xs ys p q = p ∙ ap (option_map (λ (r : List Given). xs ++ r)) q
took_twice a b (Some zs) xs ys p q =
    p ∙ ap (option_map (λ (r : List Given). xs ++ r)) q ∙ ap (λ (l : List Given). Some l) (sym (append_assoc xs ys zs))

sent_twice : (a b c : Option (List ℕ)) (xs ys zs : List ℕ) → zs ≡ xs ++ ys → b ≡ append_known a xs → c ≡ append_known b ys → c ≡ append_known a zs
sent_twice a b c xs ys zs whole p q =
    q ∙ ap (λ (k : Option (List ℕ)). append_known k ys) p ∙ append_known_twice a xs ys ∙ ap (append_known a) (sym whole)

-- whole turns, and then more
pub turns_more : (s : State) (a b c : Told) (ts us : List Turn) → Turns s a b ts → Turns (state_after s ts) b c us → Turns s a c (ts ++ us)
turns_more s a b c ts us p q =
    record {
      took = rw (inputs_more ts us) (took_twice a.inputs b.inputs c.inputs (turn_inputs ts) (turn_inputs us) p.took q.took);
      sent =
          sent_twice a.sent b.sent c.sent (transcript_of s ts) (transcript_of (state_after s ts) us) (transcript_of s (ts ++ us)) (lines_more ts us s) p.sent
          q.sent;
      lanes = λ l.
          sent_twice (a.got l) (b.got l) (c.got l) (lane_of l s ts) (lane_of l (state_after s ts) us) (lane_of l s (ts ++ us)) (lane_more ts us l s) (p.lanes l)
          (q.lanes l);
      losses = λ n.
          rw (risen_more ts us n (a.losses n)) (omega (arith, q.losses n, risen_by_le us n (risen_by n (a.losses n) ts) (b.losses n) (p.losses n)));
      had = had_more ts us s p.had q.had;
    }

pub closed_none : (sessions : List Session) → sessions ≡ closed_where [] sessions
unfolding closed_where
closed_none sessions = refl

-- all flags set close all
closed_all : (sessions : List Session) → closed_where (replicate (length sessions) true) sessions ≡ replicate (length sessions) closed
unfolding closed_where
closed_all [] = refl
closed_all (s ∷ ss) = ap (λ (rest : List Session). closed ∷ rest) (closed_all ss)

pub closed_sixteen : (sessions : List Session) → length sessions ≡ SESSIONS → closed_where (replicate SESSIONS true) sessions ≡ replicate SESSIONS closed
closed_sixteen sessions size = subst (λ n. closed_where (replicate n true) sessions ≡ replicate n closed) size (closed_all sessions)

-- one session was closed
pub closed_one : (before now : List Session) (i : ℕ) (x : Session) → now ≡ slice_set before i x → x ≡ closed → now ≡ slice_set before i closed
closed_one before now i x is shut = is ∙ ap (slice_set before i) shut

pub still_sixteen : (before now : List Session) (i : ℕ) (x : Session) → now ≡ slice_set before i x → length before ≡ SESSIONS → length now ≡ SESSIONS
still_sixteen before now i x is size = ap length is ∙ length-set before i x ∙ size

pub closed_then : (i : ℕ) (lost : List Bool) (sessions before now : List Session) → i < length lost → i < length sessions → slice_index_or lost i false ≡ true
    → before ≡ closed_where (take i lost) sessions → now ≡ slice_set before i closed → now ≡ closed_where (take (i + 1) lost) sessions
closed_then i lost sessions before now below within flag was is =
    is ∙ ap (λ (ms : List Session). slice_set ms i closed) was ∙ sym (rw flag at (closed_more i lost sessions below within))

pub closed_else : (i : ℕ) (lost : List Bool) (sessions before now : List Session) → i < length lost → i < length sessions → slice_index_or lost i false ≡ false
    → before ≡ closed_where (take i lost) sessions → now ≡ before → now ≡ closed_where (take (i + 1) lost) sessions
closed_else i lost sessions before now below within flag was is =
    is ∙ was ∙ sym (rw flag at (closed_more i lost sessions below within))

-- whole turns from the opening to the state that a machine is in, so many of them, and what listeners heard; its run has not ended
pub record GoneOn (old new : Told) (m : Seen) (count : ℕ) (x y : List Ear) (turns : List Turn) : Type 0 where
  pub turns_are : Turns opening old new turns
  pub is_in : IsIn (state_after opening turns) m
  pub count_is : length turns ≡ count
  pub going : m.ended ≡ false
  pub heard : Hears opening.board (state_after opening turns).board x y

-- whether the run has ended, by a machine
pub ended_in : (s : State) (m : Seen) → IsIn s m → s.ended ≡ m.ended
ended_in s m at = ap (λ (x : State). x.ended) at.rest

-- One turn.

none_taken : (x : Option (List Given)) → x ≡ option_map (λ (r : List Given). [] ++ r) x
none_taken None = refl
none_taken (Some xs) = refl

pub nothing_appended : (x : Option (List ℕ)) → x ≡ append_known x []
nothing_appended None = refl
nothing_appended (Some xs) = ap (λ (l : List ℕ). Some l) (sym (append-nil xs))

took_one : (old new : Option (List Given)) (bad : Option (Option ℕ)) (i : Option Given) → Gives old new bad i
    → old ≡ option_map (λ (r : List Given). cons_option i [] ++ r) new
took_one old new bad None h = sym h.0 ∙ none_taken new
took_one old new bad (Some i) h = h

-- an input was taken, and nothing sent
abbrev pub taken_turn : Input → Names → List Choice → Turn
taken_turn i names cs = record { input = i; names = names; choices = cs; lost = []; cut = λ l. 0 }

pub cut_taken : (s : State) (oi ni : Option (List Given)) (os ns : Option (List ℕ)) (og ng : Lane → Option (List ℕ)) (ol nl : ℕ → ℕ) (bad : Option (Option ℕ))
    (i : Input) (names : Names) (cs : List Choice)
    → Gives oi ni bad (given_by i names) → ns ≡ os → ((l : Lane) → ng l ≡ og l) → ((n : ℕ) → nl n ≡ ol n)
    → Cut s (known oi os og ol) (known ni ns ng nl) (Some (taken_turn i names cs))
cut_taken s oi ni os ns og ng ol nl bad i names cs given sent got losses =
    record {
      took = took_one oi ni bad (given_by i names) given;
      sent = (0, omega arith, sent ∙ nothing_appended os);
      lanes = λ l. (0, omega arith, got l ∙ nothing_appended (og l));
      losses = λ n. omega (arith, losses n);
    }

-- an input was taken, and its messages were cut short
pub cut_sent : (s : State) (i : Input) (names : Names) (cs : List Choice) (slice outs : List Message) (oi mi ni : Option (List Given))
    (os ms ns : Option (List ℕ))
    (og mg ng : Lane → Option (List ℕ)) (ol ml nl : ℕ → ℕ) (bad : Option (Option ℕ))
    → (step s i cs).outs ≡ outs → slice ≡ outs → Gives oi mi bad (given_by i names) → ms ≡ os → ((l : Lane) → mg l ≡ og l) → ((n : ℕ) → ml n ≡ ol n)
    → SentFront names (known mi ms mg ml) (known ni ns ng nl) slice
    → Cut s (known oi os og ol) (known ni ns ng nl) (Some (taken_turn i names cs))
cut_sent s i names cs slice outs oi mi ni os ms ns og mg ng ol ml nl bad is same given sent got losses h =
    record {
      took = took_one oi ni bad (given_by i names) (rw h.inputs given);
      sent = rw (outs_is, ← sent) h.sent;
      lanes = λ l. rw (outs_is, ← got l) (h.lanes l);
      losses = λ n. rw (← losses n) (h.losses n);
    }
  where
    outs_is : (step s i cs).outs ≡ slice
    outs_is = is ∙ sym same

at_end : (oi mi ni : Option (List Given)) (bad : Option (Option ℕ)) (i : Input) (names : Names) → ni ≡ mi → Gives oi mi bad (given_by i names)
    → is_end i.what ≡ true
    → AtEnd ni bad None
at_end oi mi ni bad i names same given over = subst (λ (x : Option (List Given)). AtEnd x bad None) (sym (same ∙ ended.0)) ended.1
  where
    ended : (mi ≡ oi) × AtEnd oi bad None
    ended = rw over at given

-- an input was taken, and what it makes was sent
pub one_turn : (s : State) (to : Seen) (i : Input) (names : Names) (cs : List Choice) (slice outs : List Message) (lost : List Bool)
    (oi mi ni : Option (List Given))
    (os ms ns : Option (List ℕ)) (og mg ng : Lane → Option (List ℕ)) (ol ml nl : ℕ → ℕ) (bad : Option (Option ℕ)) (x y : List Ear)
    → (step s i cs).outs ≡ outs → slice ≡ outs → Gives oi mi bad (given_by i names) → ms ≡ os → ((l : Lane) → mg l ≡ og l) → ((n : ℕ) → ml n ≡ ol n)
    → Sent names (known mi ms mg ml) (known ni ns ng nl) slice lost → IsIn (close_lost lost (step s i cs).state) to
    → Hears s.board (step s i cs).state.board x y → TurnTold s to (known oi os og ol) (known ni ns ng nl) bad x y (Ok tt)
one_turn s to i names cs slice outs lost oi mi ni os ms ns og mg ng ol ml nl bad x y is same given sent got losses h shut heard = (
  record { input = i; names = names; choices = cs; lost = lost; cut = h.lanes.0 },
  record {
    took = took_one oi ni bad (given_by i names) (rw h.inputs given);
    sent = rw (append-nil (transcript names (step s i cs).outs), outs_is, ← sent) h.sent;
    lanes = λ l.
        rw (append-nil (cut_to (is_lost lost l) (h.lanes.0 l) (lane_bytes l (step s i cs).outs)), outs_is, ← got l) (h.lanes.1.lanes l);
    losses = λ n. rw (← losses n) (h.losses n);
    had = (λ l f. rw outs_is (h.had l f), tt);
  },
  shut,
  at_end oi mi ni bad i names h.inputs given,
  heard,
)
  where
    outs_is : (step s i cs).outs ≡ slice
    outs_is = is ∙ sym same

-- Runs.

-- no turns, and nothing changed
pub turns_none : (s : State) (i : Option (List Given)) (t : Option (List ℕ)) (g : Lane → Option (List ℕ)) (n : ℕ → ℕ)
    → Turns s (known i t g n) (known i t g n) []
turns_none s i t g n =
    record {
      took = none_taken i;
      sent = nothing_appended t;
      lanes = λ l. nothing_appended (g l);
      losses = λ k. omega arith;
      had = tt;
    }

-- nothing was done
pub cut_none : (limit : ℕ) (i : Option (List Given)) (t : Option (List ℕ)) (g : Lane → Option (List ℕ)) (n : ℕ → ℕ) (x : List Ear)
    → CutRunTold limit (known i t g n) (known i t g n) (λ b. HeardSo b x x)
cut_none limit i t g n x = (
  known i t g n,
  [],
  None,
  (turns_none opening i t g n, refl),
  record { took = none_taken i; sent = (0, omega arith, nothing_appended t); lanes = λ l. (0, omega arith, nothing_appended (g l)); losses = λ k. omega arith },
  omega arith,
  heard-none-so x,
)

pub gone_none : (m : Seen) (i : Option (List Given)) (t : Option (List ℕ)) (g : Lane → Option (List ℕ)) (n : ℕ → ℕ) (x : List Ear) → IsIn opening m
    → (turns : List Turn) × GoneOn (known i t g n) (known i t g n) m 0 x x turns
gone_none m i t g n x at = (
  [],
  record {
    turns_are = turns_none opening i t g n;
    is_in = at;
    count_is = refl;
    going = sym (ended_in opening m at);
    heard = hears-none opening.board opening.board refl x;
  },
)

-- what a turn does from each state that a machine is in
abbrev TurnsFrom : Seen → Seen → Told → Told → Option (Option ℕ) → List Ear → List Ear → Result (Unit {0}) Ending → Type 0
TurnsFrom m to b c bad x y answer = (s : State) → IsIn s m → TurnTold s to b c bad x y answer

-- one turn more
module _ (a b c : Told) (m to : Seen) (count : ℕ) (bad : Option (Option ℕ)) (x y z : List Ear) (ts : List Turn) (h : GoneOn a b m count x y ts)
    (p : TurnsFrom m to b c bad y z (Ok tt)) where
  abbrev pub further : Turn
  further = (p (state_after opening ts) h.is_in).0

  joined : Turns opening a c (ts ++ further ∷ [])
  joined = turns_more opening a b c ts (further ∷ []) h.turns_are (p (state_after opening ts) h.is_in).1

  joined_state : IsIn (state_after opening (ts ++ further ∷ [])) to
  joined_state = subst (λ (s : State). IsIn s to) (sym (state_more ts (further ∷ []) opening)) (p (state_after opening ts) h.is_in).2

  joined_heard : Hears opening.board (state_after opening (ts ++ further ∷ [])).board x z
  joined_heard =
      subst (λ (s : State). Hears opening.board s.board x z) (sym (state_more ts (further ∷ []) opening))
      (hears-then opening.board (state_after opening ts).board (after (state_after opening ts) further).board x y z h.heard
      (p (state_after opening ts) h.is_in).4)

pub going_on : (a b c : Told) (m to : Seen) (count : ℕ) (bad : Option (Option ℕ)) (x y z : List Ear) → (turns : List Turn) × GoneOn a b m count x y turns
    → TurnsFrom m to b c bad y z (Ok tt) → to.ended ≡ false → (turns : List Turn) × GoneOn a c to (count + 1) x z turns
going_on a b c m to count bad x y z h p going =
    let t = further a b c m to count bad x y z h.0 h.1 p in (
      h.0 ++ t ∷ [],
      record {
        turns_are = joined a b c m to count bad x y z h.0 h.1 p;
        is_in = joined_state a b c m to count bad x y z h.0 h.1 p;
        count_is = length-append h.0 (t ∷ []) ∙ ap (λ (n : ℕ). n + 1) h.1.count_is;
        going = going;
        heard = joined_heard a b c m to count bad x y z h.0 h.1 p;
      },
    )

-- a run that has ended stays so, and its end ends it
after_ended : (s : State) (t : Turn) → s.ended ≡ true → (after s t).ended ≡ true
after_ended s t over = ap (λ (x : Stepped). x.state.ended) (step_ended s t.input t.choices over) ∙ over

stays_ended : (ts : List Turn) (s : State) → s.ended ≡ true → (state_after s ts).ended ≡ true
stays_ended [] s over = over
stays_ended (t ∷ ts) s over = stays_ended ts (after s t) (after_ended s t over)

end_ends : (s : State) (t : Turn) → is_end t.input.what ≡ true → (after s t).ended ≡ true
end_ends s t over = by_state s.ended refl
  where
    by_what : (w : What) → s.ended ≡ false → t.input.what ≡ w → is_end w ≡ true → (after s t).ended ≡ true
    by_what End going is e = ap (λ (x : Stepped). x.state.ended) (step_on s t.input End t.choices going is)
    by_what (Open n) going is e = absurd (true≢false (sym e))
    by_what (Bytes n bytes) going is e = absurd (true≢false (sym e))
    by_what (Shut n) going is e = absurd (true≢false (sym e))
    by_what (GuestLine bytes) going is e = absurd (true≢false (sym e))
    by_what (Step ns) going is e = absurd (true≢false (sym e))

    by_state : (e : Bool) → s.ended ≡ e → (after s t).ended ≡ true
    by_state true is = after_ended s t is
    by_state false is = by_what t.input.what is refl over

pub has_end_ends : (ts : List Turn) (s : State) → has_end ts ≡ true → (state_after s ts).ended ≡ true
has_end_ends [] s over = absurd (true≢false (sym over))
has_end_ends (t ∷ ts) s over = go (is_end t.input.what) refl over (has_end_ends ts (after s t))
  where
    go : (e : Bool) → is_end t.input.what ≡ e → (e || has_end ts) ≡ true → (has_end ts ≡ true → (state_after (after s t) ts).ended ≡ true)
        → (state_after (after s t) ts).ended ≡ true
    go true is any rest = stays_ended ts (after s t) (end_ends s t is)
    go false is any rest = rest any

-- a run that goes on until a turn has its end there
has_end_last : (ts : List Turn) (t : Turn) (s : State) → (state_after s ts).ended ≡ false → has_end (ts ++ t ∷ []) ≡ true → is_end t.input.what ≡ true
has_end_last [] t s going over = go (is_end t.input.what) over
  where
    go : (e : Bool) → (e || false) ≡ true → e ≡ true
    go true h = refl
    go false h = h
has_end_last (u ∷ ts) t s going over = go (is_end u.input.what) refl over (has_end_last ts t (after s u) going)
  where
    go : (e : Bool) → is_end u.input.what ≡ e → (e || has_end (ts ++ t ∷ [])) ≡ true → (has_end (ts ++ t ∷ []) ≡ true → is_end t.input.what ≡ true)
        → is_end t.input.what ≡ true
    go true is any rest = absurd (true≢false (sym (stays_ended ts (after s u) (end_ends s u is)) ∙ going))
    go false is any rest = rest any

-- a turn after fewer than a limit
within : (ts : List Turn) (t : Turn) (count limit : ℕ) → length ts ≡ count → count < limit → length (ts ++ t ∷ []) ≤ limit
within ts t count limit is few = rw (length-append ts (t ∷ [])) (omega (arith, is))

-- turns and at most one more
last_within : (ts : List Turn) (last : Option Turn) (count limit : ℕ) → length ts ≡ count → count < limit → length ts + length (option_to_list last) ≤ limit
last_within ts None count limit is few = omega (arith, is)
last_within ts (Some t) count limit is few = omega (arith, is)

-- the run of a machine goes on, by the turns that led there
still_going : (a b : Told) (m : Seen) (count : ℕ) (x y : List Ear) (ts : List Turn) → GoneOn a b m count x y ts → (state_after opening ts).ended ≡ false
still_going a b m count x y ts h = ended_in (state_after opening ts) m h.is_in ∙ h.going

pub done : (a b c : Told) (m to : Seen) (count limit : ℕ) (bad other : Option (Option ℕ)) (x y z : List Ear) → bad ≡ other → count < limit
    → (turns : List Turn) × GoneOn a b m count x y turns → TurnsFrom m to b c bad y z (Ok tt) → to.ended ≡ true → RunTold Done limit a c other x z
done a b c m to count limit bad other x y z is few h p over =
    let t = further a b c m to count bad x y z h.0 h.1 p in
    let ts = h.0 ++ t ∷ [] in
    let at = joined_state a b c m to count bad x y z h.0 h.1 p in
    let going = still_going a b m count x y h.0 h.1 in
    subst (λ (place : Option (Option ℕ)). RunTold Done limit a c place x z) is (
      ts,
      joined a b c m to count bad x y z h.0 h.1 p,
      (h.0, t, refl, going, ended_in (state_after opening ts) to at ∙ over),
      within h.0 t count limit h.1.count_is few,
      λ e. (p (state_after opening h.0) h.1.is_in).3 (has_end_last h.0 t opening going e),
      heard-all (state_after opening ts).board x z (joined_heard a b c m to count bad x y z h.0 h.1 p),
    )

-- as many turns as there may be
pub limited : (a b : Told) (m : Seen) (count limit : ℕ) (bad : Option (Option ℕ)) (x y : List Ear) → count ≡ limit
    → (turns : List Turn) × GoneOn a b m count x y turns
    → RunTold Limit limit a b bad x y
limited a b m count limit bad x y full h = (
  h.0,
  (h.1.turns_are, still_going a b m count x y h.0 h.1),
  h.1.count_is ∙ full,
  heard-all (state_after opening h.0).board x y h.1.heard,
)

-- whole turns, and then nothing more
pub also : (a b c : Told) (m : Seen) (count : ℕ) (x y : List Ear) (ts : List Turn) → GoneOn a b m count x y ts → Turns (state_after opening ts) b c []
    → Turns opening a c ts
also a b c m count x y ts h p =
    subst (λ (us : List Turn). Turns opening a c us) (append-nil ts) (turns_more opening a b c ts [] h.turns_are p)

-- a turn that stopped the run
pub stopped_by : (a b c : Told) (m to : Seen) (count limit : ℕ) (bad : Option (Option ℕ)) (x y z : List Ear) (e : Ending) → count < limit
    → (turns : List Turn) × GoneOn a b m count x y turns → TurnsFrom m to b c bad y z (Err e) → RunTold e limit a c bad x z
stopped_by a b c m to count limit bad x y z e few h p = by e (p (state_after opening h.0) h.1.is_in)
  where
    going : (state_after opening h.0).ended ≡ false
    going = still_going a b m count x y h.0 h.1

    few_turns : length h.0 < limit
    few_turns = omega (arith, few, h.1.count_is)

    all : (d : Board) → Hears (state_after opening h.0).board d y z → Hears opening.board d x z
    all d heard = hears-then opening.board (state_after opening h.0).board d x y z h.1.heard heard

    by : (e : Ending) → TurnTold (state_after opening h.0) to b c bad y z (Err e) → RunTold e limit a c bad x z
    by Done q = absurd q
    by Limit q = absurd q
    by (Bad n) q = (
      h.0,
      (also a b c m count x y h.0 h.1 q.0, going),
      few_turns,
      q.1,
      heard-all (state_after opening h.0).board x z (all (state_after opening h.0).board q.2),
    )
    by NextFailed q = (
      h.0,
      (also a b c m count x y h.0 h.1 q.0, going),
      few_turns,
      heard-all (state_after opening h.0).board x z (all (state_after opening h.0).board q.1),
    )
    by SendFailed q = (
      b,
      h.0,
      q.0,
      (h.1.turns_are, going),
      q.1,
      last_within h.0 q.0 count limit h.1.count_is few,
      heard-all (board_after (state_after opening h.0) q.0) x z (all (board_after (state_after opening h.0) q.0) q.2),
    )
    by Memory q = (
      b,
      h.0,
      q.0,
      (h.1.turns_are, going),
      q.1,
      last_within h.0 q.0 count limit h.1.count_is few,
      heard-so (board_after (state_after opening h.0) q.0) x z
          (front-then opening.board (state_after opening h.0).board (board_after (state_after opening h.0) q.0) x y z h.1.heard q.2),
    )

-- what a run did that nobody listened to
pub run_met : (e : Ending) (limit : ℕ) (a b : Told) (bad : Option (Option ℕ)) (x y : List Ear) → RunTold e limit a b bad x y → RunMeets e limit a b bad
run_met Done limit a b bad x y h = (h.0, h.1, h.2, h.3, h.4)
run_met (Bad n) limit a b bad x y h = (h.0, h.1, h.2, h.3)
run_met Limit limit a b bad x y h = (h.0, h.1, h.2)
run_met NextFailed limit a b bad x y h = (h.0, h.1, h.2)
run_met SendFailed limit a b bad x y h = (h.0, h.1, h.2, h.3, h.4, h.5)
run_met Memory limit a b bad x y h = (h.0, h.1, h.2, h.3, h.4, h.5)
