-- The messages of a step go to lanes of the sixteen sessions.
use Rattle.std.proofs.Common.{◌≡◌, ℕ, zero, suc, ◌<◌, ◌≤◌, Bool, true, false, if◌then◌else◌, List, [], ◌∷◌, ◌++◌, map, option_to_list, Ok, ap, ◌∙◌, append_assoc, refl, subst, sym, arith}
use Rattle.std.proofs.lemmas.Grind.{flat_map-append}
use Rattle.qo_values.specs.declared.limits.TheConstants.{SESSIONS}
use Rattle.qo_causes.specs.declared.hubs.Lane.{Lane}
use Rattle.qo_causes.specs.declared.inputs.Moment.{Moment}
use Rattle.qo_replies.specs.declared.events.Event.{Event}
use Rattle.qo_machine.proofs.MachineLemmas.{told_more}
use Rattle.qo_commands.specs.Commands.{event_of}
use Rattle.qo_model.specs.Board.{Board}
use Rattle.qo_model.specs.Opening.{opening_board}
use Rattle.qo_realize.specs.Representation.{Stands}
use Rattle.qo_machine.specs.Serving.{Tells}
use Rattle.qo_machine.specs.declared.machines.Reply.{Reply}
use Rattle.qo_machine.specs.Machine.{Message, Seen, State, beside, commanding, event_outs, is_commanding, mode_of, numbers_below, state_with, those_commanding, event_messages}
use Rattle.qo_machine.specs.Sending.{AreToLanes, IsLane}

lanes_more : (a b : List Message) → AreToLanes a → AreToLanes b → AreToLanes (a ++ b)
lanes_more [] b p q = q
lanes_more (m ∷ a) b p q = (p.0, lanes_more a b p.1 q)

one_told : (s : State) (e : Event) (at : Moment) (n : ℕ) (t : Bool) → n < SESSIONS → is_commanding (mode_of s n) ≡ t
    → AreToLanes (event_messages e at (if t then n ∷ [] else []))
one_told s e at n true below is = (below, tt)
one_told s e at n false below is = tt

all_told : (k : ℕ) (s : State) (e : Event) (at : Moment) → k ≤ SESSIONS → AreToLanes (event_messages e at (those_commanding s (numbers_below k)))
all_told zero s e at few = tt
all_told (suc k) s e at few =
    subst AreToLanes (sym (told_more s e at (numbers_below k) (k ∷ [])))
    (lanes_more (event_messages e at (those_commanding s (numbers_below k))) (event_messages e at (those_commanding s (k ∷ [])))
    (all_told k s e at (omega arith))
    (one_told s e at k (is_commanding (mode_of s k)) (omega arith) refl))

events_told : (es : List Event) (s : State) (at : Moment) → AreToLanes (event_outs at s es)
events_told [] s at = tt
events_told (e ∷ es) s at =
    lanes_more (event_messages e at (those_commanding s (numbers_below SESSIONS))) (event_outs at s es) (all_told SESSIONS s e at (omega arith))
    (events_told es s at)

pub told_lanes : (es : List Event) (s : State) (at : Moment) (lane : Lane) (text : List ℕ) (told front : List Message) → told ≡ event_outs at s es
    → front ≡ told ++ (lane, text) ∷ [] → IsLane lane → AreToLanes front
told_lanes es s at lane text told front tells is there =
    subst AreToLanes (sym is) (lanes_more told ((lane, text) ∷ []) (subst AreToLanes (sym tells) (events_told es s at)) (there, tt))

pub more_lanes : (a front b : List Message) → b ≡ a ++ front → AreToLanes a → AreToLanes front → AreToLanes b
more_lanes a front b is p q = subst AreToLanes (sym is) (lanes_more a front p q)

-- the messages that tell of what waited, of a command's own events, and its reply
pub reply_sent : (at : Moment) (lane : Lane) (m mid : Seen) (r : Reply) (start told both outs : List Message) (waiting own : List Event) (text : List ℕ)
    → IsLane lane → ((b : Board) → state_with b mid ≡ state_with b m) → ((b : Board) → Stands b m.board → waiting ≡ map event_of b.events)
    → told ≡ start ++ event_outs at (beside m) waiting → both ≡ told ++ event_outs at (beside mid) own → own ≡ option_to_list r.event
    → r.text ≡ Ok text → outs ≡ both ++ (lane, text) ∷ []
    → (front : List Message) × (outs ≡ start ++ front) × AreToLanes front × Tells at lane m r front
reply_sent at lane m mid r start told both outs waiting own text below still waits tells adds owns has ends =
    let last : List Message = (lane, text) ∷ [] in
    let es : List Event = option_to_list r.event in
    let one : List Message = event_outs at (beside m) waiting in
    let two : List Message = event_outs at (beside m) es in
    let second : both ≡ told ++ two =
    adds ∙ ap (λ (l : List Event). told ++ event_outs at (beside mid) l) owns
    ∙ ap (λ (s : State). told ++ event_outs at s es) (still opening_board) in
    let joined : one ++ two ≡ event_outs at (beside m) (waiting ++ es) =
    sym (flat_map-append (λ (event : Event). event_messages event at (commanding (beside m))) waiting es) in
    let front : List Message = event_outs at (beside m) (waiting ++ es) ++ last in (
      front,
      ends ∙ ap (λ (l : List Message). l ++ last) (second ∙ ap (λ (l : List Message). l ++ two) tells ∙ append_assoc start one two)
          ∙ append_assoc start (one ++ two) last ∙ ap (λ (l : List Message). start ++ (l ++ last)) joined,
      told_lanes (waiting ++ es) (beside m) at lane text (event_outs at (beside m) (waiting ++ es)) front refl refl below,
      (text, has, λ b stands. ap (λ (l : List Event). event_outs at (state_with b m) (l ++ es) ++ last) (waits b stands)),
    )
