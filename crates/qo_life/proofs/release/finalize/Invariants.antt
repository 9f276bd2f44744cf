use Rattle.std.specs.Prelude.{◌+◌, [], ◌∷◌}
use Rattle.qo_life.proofs.WorkLemmas.{Running, left_after, owed}
use Rattle.qo_life.proofs.release.finalize.Given as goal

abbrev pub invariant-loop-front : goal.invariant-loop-front
invariant-loop-front g l = Running l.fn.heap l.heap l.fn.o.birth (l.fn.steps + owed l.fn.heap ((l.fn.o.birth, 0) ∷ [])) l.steps l.front

abbrev pub decreases-loop-front : goal.decreases-loop-front
decreases-loop-front g l = left_after l.heap l.front
