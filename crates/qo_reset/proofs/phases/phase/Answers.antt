use Rattle.std.proofs.Common.{◌≡◌, ◌∙◌, ap, sym, subst}
use Rattle.qo_reset.specs.declared.turns.Turn.{Turn}
use Rattle.qo_reset.specs.Phases.{births_of, phase_on}
use Rattle.qo_reset.specs.Turns.{IsTimeless, walk_on}
use Rattle.qo_reset.proofs.LiveLemmas.{live-there, phase-still, phase-timeless, walk-phase}
use Rattle.qo_reset.proofs.phases.phase.Goals as goal

pub walk-requires-clause-phase : goal.walk-requires-clause-phase
walk-requires-clause-phase g c = subst IsTimeless (sym c.phase_turn.ensures) (phase-timeless c.args.act c.args.only_out c.requires.phase)

phased : (g : _) (c : goal.After-walk g) → c.walk.new.heap ≡ phase_on c.args.act c.args.only_out (births_of c.args.holds.now) c.args.root.birth c.args.heap.now
phased g c =
    c.walk.ensures.walk
    ∙ ap (λ (turn : Turn). walk_on turn (births_of c.args.holds.now) c.args.root.birth c.args.heap.now) c.phase_turn.ensures
    ∙ walk-phase c.args.act c.args.only_out (births_of c.args.holds.now) c.args.root.birth c.args.heap.now c.reveal_invariant.ensures
    (live-there c.args.heap.now c.args.root c.requires.live) c.requires.counts

pub returns-clause-phase : goal.returns-clause-phase
returns-clause-phase g c = phased g c

pub returns-clause-still : goal.returns-clause-still
returns-clause-still g c = rw (phased g c) (phase-still c.args.act c.args.only_out (births_of c.args.holds.now) c.args.root.birth c.args.heap.now)
