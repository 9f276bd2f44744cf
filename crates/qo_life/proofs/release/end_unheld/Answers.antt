use Rattle.std.proofs.Common.{◌∙◌, ap, sym}
use Rattle.qo_life.proofs.PaidLemmas.{ends-within, held-within, none-within}
use Rattle.qo_life.proofs.TreeLemmas.{goes-none}
use Rattle.qo_life.proofs.ReleaseLemmas.{goes-free, goes-held, held-some, unheld-none}
use Rattle.qo_life.proofs.release.end_unheld.Goals as goal

pub returns-then-not-is_held-clause-goes : goal.returns-then-not-is_held-clause-goes
returns-then-not-is_held-clause-goes g c =
    rw c.in-Some.is (goes-free c.args.heap.now c.finalize.new.heap c.reveal_invariant.ensures c.in-Some.o.birth
    (unheld-none _ c.is_held.result c.is_held.ensures.held c.if-not-is_held.true) c.finalize.ensures.goes)

pub returns-then-not-is_held-clause-work : goal.returns-then-not-is_held-clause-work
returns-then-not-is_held-clause-work g c =
    ends-within c.args.heap.now c.finalize.new.heap c.in-Some.o.birth c.args.steps.now c.is_held.new.steps c.finalize.new.steps c.reveal_invariant.ensures
    c.finalize.ensures.goes c.is_held.ensures.cost c.finalize.ensures.paid

pub returns-else-not-is_held-clause-goes : goal.returns-else-not-is_held-clause-goes
returns-else-not-is_held-clause-goes g c =
    rw c.in-Some.is
    (goes-held c.args.heap.now c.reveal_invariant.ensures c.in-Some.o.birth (held-some _ c.is_held.result c.is_held.ensures.held c.if-not-is_held.false))

pub returns-else-not-is_held-clause-work : goal.returns-else-not-is_held-clause-work
returns-else-not-is_held-clause-work g c = λ b d s t. held-within b d c.args.steps.now c.is_held.new.steps c.is_held.ensures.cost

pub returns-in_default-clause-goes : goal.returns-in_default-clause-goes
returns-in_default-clause-goes g c = rw c.in_default.is (goes-none c.args.heap.now)

pub returns-in_default-clause-work : goal.returns-in_default-clause-work
returns-in_default-clause-work g c = λ b d s t. none-within b d c.args.steps.now
