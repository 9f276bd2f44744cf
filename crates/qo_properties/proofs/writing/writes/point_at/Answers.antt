use Rattle.std.proofs.Common.{refl}
use Rattle.qo_object.specs.Content.{pointed_at}
use Rattle.qo_heap.proofs.HeapLemmas.{live-edit}
use Rattle.qo_heap.proofs.BoardChanges.{shows-pointed}
use Rattle.qo_properties.proofs.ClaimLemmas.{edit-keeps}
use Rattle.qo_properties.proofs.PinLemmas.{edited-pins}
use Rattle.qo_properties.proofs.KeptLemmas.{edit-kept}
use Rattle.qo_properties.proofs.writing.writes.point_at.Goals as goal

pub returns-in-Some-clause-shown : goal.returns-in-Some-clause-shown
returns-in-Some-clause-shown g c = λ b s.
    rw (c.in-Some.is, c.point.ensures.now) (shows-pointed b c.args.heap.now s c.args.o.birth c.args.at c.in-Some.to)

pub returns-in-Some-clause-names : goal.returns-in-Some-clause-names
returns-in-Some-clause-names g c = λ key live.
    rw c.point.ensures.now (live-edit c.args.o.birth (pointed_at c.in-Some.to c.args.at) c.args.heap.now.rows key live)

pub returns-in-Some-clause-pins : goal.returns-in-Some-clause-pins
returns-in-Some-clause-pins g c =
    edited-pins c.args.heap.now c.point.new.self c.args.o.birth (pointed_at c.in-Some.to c.args.at) (λ d. refl) c.point.ensures.now

pub returns-in-Some-clause-book : goal.returns-in-Some-clause-book
returns-in-Some-clause-book g c = edit-keeps c.args.heap.now c.point.new.self c.args.o.birth (pointed_at c.in-Some.to c.args.at) (λ d. refl) c.point.ensures.now

pub returns-in-Some-clause-kept : goal.returns-in-Some-clause-kept
returns-in-Some-clause-kept g c =
    edit-kept c.args.heap.now c.point.new.self c.args.o.birth (pointed_at c.in-Some.to c.args.at) (λ d. refl) c.point.ensures.now
