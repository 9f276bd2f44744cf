use Rattle.std.proofs.Common.{◌≡◌, ◌≤◌, length, drop}
use Rattle.qo_life.specs.Life.{with_notes}
use Rattle.qo_life.proofs.BirthLemmas.{inits_in}
use Rattle.qo_life.proofs.birth.initialize_whole.Given as goal

abbrev pub invariant-loop-left : goal.invariant-loop-left
invariant-loop-left g l = (l.heap ≡ with_notes (inits_in l.o.birth (drop l.left l.ancestry)) l.initial.heap) × (l.left ≤ length l.ancestry)

abbrev pub decreases-loop-left : goal.decreases-loop-left
decreases-loop-left g l = l.left
