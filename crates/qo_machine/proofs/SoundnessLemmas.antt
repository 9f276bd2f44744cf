-- Each board that a machine stands at is sound, and after a step no event waits.
use Rattle.std.proofs.Common.{◌≡◌, refl, sym, ◌∙◌, List, [], Result, Ok, Err, IfOk, OnErr, false}
use Rattle.qo_causes.specs.declared.inputs.Input.{Input}
use Rattle.qo_commands.proofs.AttemptLemmas.{attempted-all}
use Rattle.qo_model.specs.Board.{Board}
use Rattle.qo_model.specs.Opening.{opening_board}
use Rattle.qo_model.proofs.OpeningLemmas.{opening_sound}
use Rattle.qo_realize.specs.Representation.{StandsForGood}
use Rattle.qo_realize.proofs.GoodBoardLemmas.{alike-good, good-of, opening-good}
use Rattle.qo_machine.specs.Between.{IsSettled, IsSoundBetween}
use Rattle.qo_machine.specs.Machine.{Answers, BreaksOff, IsIn, Message, Seen, State, opening, state_with, step}
use Rattle.qo_machine.proofs.MachineLemmas.{in_at}
use Rattle.qo_machine.proofs.PreservationLemmas.{KeepsCommands, advanced-all, broken_keeps, step_keeps}

-- after each command no event waits
abbrev IsDrained : Board → Type 0
IsDrained b = b.events ≡ []

drained_commands : KeepsCommands IsDrained
drained_commands =
    record {
      command = λ b r p. refl;
      attempt = λ b r i joined p. attempted-all IsDrained b r i joined p (λ t. p) (λ t. p);
      advance = λ b ns p. advanced-all IsDrained b ns p (λ low. p);
    }

-- so none does after a step, also after one that was broken off
pub stepped : {E : Type 0} (old new : Seen) (i : Input) (r : Result (List Message) E) → StandsForGood old.board → IsSettled old
    → ((s : State) → IsIn s old → IfOk r (λ outs. Answers s i outs new)) → ((s : State) → IsIn s old → OnErr r (BreaksOff s i new)) → IsSettled new
stepped old new i (Ok outs) (b, stands, good) settled answered broken =
    let s = state_with b old in
    let p = answered s (in_at b old stands) in
    sym p.2.stands.shows.events ∙ step_keeps IsDrained drained_commands s i p.0 (stands.shows.events ∙ settled)
stepped old new i (Err e) (b, stands, good) settled answered broken =
    let s = state_with b old in
    let q = broken_keeps IsDrained drained_commands s i new (broken s (in_at b old stands)) (stands.shows.events ∙ settled) in
    sym q.1.shows.events ∙ q.2

-- between two inputs the board is sound
pub sound_between : (m : Seen) → StandsForGood m.board → IsSettled m → (s : State) → IsIn s m → IsSoundBetween s.board
sound_between m good settled s at =
    record { board = good-of m.board good s.board at.stands; events = record { none = at.stands.shows.events ∙ settled } }

-- a machine at first
pub opening_settled : (m : Seen) → IsIn opening m → IsSettled m
opening_settled m at = sym at.stands.shows.events ∙ opening_sound.events.none

pub started_sound : (m : Seen) → IsIn opening m → (s : State) → IsIn s m → IsSoundBetween s.board
started_sound m here s at =
    record {
      board = alike-good opening_board s.board m.board here.stands at.stands opening-good;
      events = record { none = at.stands.shows.events ∙ opening_settled m here };
    }
