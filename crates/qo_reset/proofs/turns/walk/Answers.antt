use Rattle.std.proofs.Common.{◌≡◌, ◌∙◌, ◌+◌, suc, length, ℕ, ap, arith}
use Rattle.qo_heap.specs.Acts.{Acts}
use Rattle.qo_heap.proofs.ActsLemmas.{acts-live}
use Rattle.qo_reset.specs.Phases.{births_of}
use Rattle.qo_reset.specs.Turns.{visited}
use Rattle.qo_reset.proofs.WalkLemmas.{visited-acts, visited-periods, visited-timely}
use Rattle.qo_reset.proofs.turns.walk.Goals as goal

pub returns-clause-walk : goal.returns-clause-walk
returns-clause-walk g c =
    let levels : c.live-levels.result + 1 ≡ suc (length c.args.heap.now.rows) = let is = c.live-levels.ensures in omega (arith, is) in
    c.visit.ensures ∙ ap (λ (d : ℕ). visited c.args.turn (births_of c.args.holds.now) d c.args.root.birth c.args.heap.now) levels

pub returns-clause-acts : goal.returns-clause-acts
returns-clause-acts g c =
    rw c.visit.ensures (visited-acts c.args.turn (births_of c.args.holds.now) (c.live-levels.result + 1) c.args.root.birth c.args.heap.now)

pub returns-clause-periods : goal.returns-clause-periods
returns-clause-periods g c =
    rw c.visit.ensures (visited-periods c.args.turn (births_of c.args.holds.now) (c.live-levels.result + 1) c.args.root.birth c.args.heap.now)

pub returns-clause-timely : goal.returns-clause-timely
returns-clause-timely g c = λ all.
    rw c.visit.ensures (visited-timely c.args.turn (births_of c.args.holds.now) (c.live-levels.result + 1) c.args.root.birth c.args.heap.now all)

pub returns-clause-live : goal.returns-clause-live
returns-clause-live g c =
    let acts : Acts c.args.heap.now c.visit.new.heap =
    rw c.visit.ensures (visited-acts c.args.turn (births_of c.args.holds.now) (c.live-levels.result + 1) c.args.root.birth c.args.heap.now) in
    rw (acts-live c.args.heap.now c.visit.new.heap acts c.args.root) c.requires.live
