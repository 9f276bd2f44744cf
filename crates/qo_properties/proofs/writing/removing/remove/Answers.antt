-- The slot of the id is let go, where there is one.
use Rattle.std.proofs.Common.{arith}
use Rattle.qo_properties.proofs.AnswerLemmas.{del-absent, del-done, del-none}
use Rattle.qo_properties.proofs.PinLemmas.{let_go-same}
use Rattle.qo_properties.proofs.KeptLemmas.{goes-kept}
use Rattle.qo_properties.proofs.writing.removing.remove.Goals as goal

pub returns-in_default-clause-change : goal.returns-in_default-clause-change
returns-in_default-clause-change g c = λ b s. del-absent b c.args.heap.now s c.args.id.now c.in_default.ensures.none

pub returns-in_default-child_place-clause-change : goal.returns-in_default-child_place-clause-change
returns-in_default-child_place-clause-change g c = λ b s.
    del-none b c.args.heap.now s c.args.id.now c.in-Some.objects.birth c.in-Some.ensures.born c.in_default-child_place.ensures.place

pub returns-clause-change : goal.returns-clause-change
returns-clause-change g c = λ b s.
    del-done b c.args.heap.now c.let_go.new.heap s c.args.id.now c.in-Some.objects.birth c.in-Some-child_place.at c.in-Some.ensures.born
    c.in-Some-child_place.ensures.place (c.let_go.ensures.release b s)

pub returns-clause-pins : goal.returns-clause-pins
returns-clause-pins g c = let_go-same c.in-Some.objects.birth c.in-Some-child_place.at c.args.heap.now c.let_go.new.heap c.let_go.ensures.goes

pub returns-clause-book : goal.returns-clause-book
returns-clause-book g c = c.let_go.ensures.goes.book

pub returns-clause-kept : goal.returns-clause-kept
returns-clause-kept g c = goes-kept c.args.heap.now c.let_go.new.heap c.let_go.ensures.goes

-- one look-up, and a release
pub returns-in_default-clause-work : goal.returns-in_default-clause-work
returns-in_default-clause-work g c = λ b d s t. omega arith

pub returns-in_default-child_place-clause-work : goal.returns-in_default-child_place-clause-work
returns-in_default-child_place-clause-work g c = λ b d s t. omega (arith, c.in_default-child_place.ensures.cost)

pub returns-clause-work : goal.returns-clause-work
returns-clause-work g c = λ b d s t. omega (arith, c.in-Some-child_place.ensures.cost, c.let_go.ensures.work b d s t)
