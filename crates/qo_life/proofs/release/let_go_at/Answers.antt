use Rattle.qo_life.specs.Life.{next_at}
use Rattle.qo_life.proofs.PaidLemmas.{past-within, slot-within}
use Rattle.qo_life.proofs.ReleaseLemmas.{goes-past, goes-turn, none-given, turn-live}
use Rattle.qo_life.proofs.release.let_go_at.Goals as goal

pub returns-in_default-clause-goes : goal.returns-in_default-clause-goes
returns-in_default-clause-goes g c = goes-past c.args.heap.now c.args.o.birth c.args.at (none-given (next_at c.args.at) _ c.in_default.ensures.next)

pub returns-in_default-clause-work : goal.returns-in_default-clause-work
returns-in_default-clause-work g c = λ b d s t. past-within b d c.args.steps.now c.turn_at.new.steps c.in_default.ensures.cost

pub end_unheld-requires : goal.end_unheld-requires
end_unheld-requires g c =
    turn-live c.args.heap.now c.empty.new.self c.reveal_invariant.ensures c.args.o.birth c.args.at c.in-Some.turn.held c.in-Some.ensures.held
    c.empty.ensures.now

pub returns-clause-goes : goal.returns-clause-goes
returns-clause-goes g c =
    goes-turn c.args.heap.now c.empty.new.self c.end_unheld.new.heap c.args.o.birth c.args.at c.in-Some.turn.held c.in-Some.ensures.held c.empty.ensures.now
    c.end_unheld.ensures.goes

pub returns-clause-work : goal.returns-clause-work
returns-clause-work g c =
    slot-within c.args.heap.now c.empty.new.self c.end_unheld.new.heap c.args.o.birth c.args.at c.args.steps.now c.turn_at.new.steps c.empty.new.steps
    c.end_unheld.new.steps c.empty.ensures.now c.in-Some.ensures.cost c.empty.ensures.cost c.end_unheld.ensures.work
