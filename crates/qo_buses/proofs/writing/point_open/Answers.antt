-- The slot that is found stays, or it is pointed.
use Rattle.std.proofs.Common.{Some, ap, ◌∙◌}
use Rattle.qo_model.specs.RowNames.{property_name}
use Rattle.qo_buses.proofs.LinkLemmas.{goes-linked, goes-misfit, goes-unlinked, goes-unnamed, open-link, point-live, point-pins}
use Rattle.qo_buses.proofs.writing.point_open.Goals as goal

pub returns-in_default-clause-goes : goal.returns-in_default-clause-goes
returns-in_default-clause-goes g c =
    goes-unnamed c.args.heap.now c.reveal_invariant.ensures c.args.o c.requires.live (property_name c.args.name) c.args.target.birth c.in_default.ensures.at

pub returns-in_default-open_type-clause-goes : goal.returns-in_default-open_type-clause-goes
returns-in_default-open_type-clause-goes g c =
    goes-unlinked c.args.heap.now c.reveal_invariant.ensures c.args.o c.requires.live (property_name c.args.name) c.in-Some.view.at c.in-Some.ensures.at
    (c.in-Some.view.name.now, c.in-Some.view.what.now) c.in-Some.ensures.slot c.args.target.birth
    (λ b log s. c.in_default-open_type.ensures.closed b c.args.target.birth)

pub point-requires-clause-link : goal.point-requires-clause-link
point-requires-clause-link g c =
    open-link c.args.heap.now c.reveal_invariant.ensures c.args.o c.requires.live (property_name c.args.name) c.in-Some.view.at c.in-Some.ensures.at
    (c.in-Some.view.name.now, c.in-Some.view.what.now) c.in-Some.ensures.slot
    c.in-Some-open_type.ty c.in-Some-open_type.ensures.open.0 c.in-Some-open_type.ensures.open.1

pub returns-then-is_fit-clause-goes : goal.returns-then-is_fit-clause-goes
returns-then-is_fit-clause-goes g c =
    rw c.point.ensures.now
    (goes-linked c.args.heap.now c.reveal_invariant.ensures c.args.o c.requires.live (property_name c.args.name) c.in-Some.view.at c.in-Some.ensures.at
    (c.in-Some.view.name.now, c.in-Some.view.what.now) c.in-Some.ensures.slot
    c.in-Some-open_type.ty c.in-Some-open_type.ensures.open.0 c.in-Some-open_type.ensures.open.1 c.args.target (c.is_fit.ensures ∙ ap Some c.if-is_fit.true))

pub returns-then-is_fit-clause-names : goal.returns-then-is_fit-clause-names
returns-then-is_fit-clause-names g c = λ key here.
    point-live c.args.heap.now c.reveal_invariant.ensures c.args.o c.requires.live (property_name c.args.name) c.point.new.self c.args.target c.in-Some.view.at
    c.point.ensures.now
    key here

pub returns-then-is_fit-clause-pins : goal.returns-then-is_fit-clause-pins
returns-then-is_fit-clause-pins g c =
    point-pins c.args.heap.now c.reveal_invariant.ensures c.args.o c.requires.live (property_name c.args.name) c.point.new.self c.args.target c.in-Some.view.at
    c.point.ensures.now

pub returns-else-is_fit-clause-goes : goal.returns-else-is_fit-clause-goes
returns-else-is_fit-clause-goes g c =
    goes-misfit c.args.heap.now c.reveal_invariant.ensures c.args.o c.requires.live (property_name c.args.name) c.in-Some.view.at c.in-Some.ensures.at
    (c.in-Some.view.name.now, c.in-Some.view.what.now) c.in-Some.ensures.slot
    c.in-Some-open_type.ty c.in-Some-open_type.ensures.open.0 c.in-Some-open_type.ensures.open.1 c.args.target (c.is_fit.ensures ∙ ap Some c.if-is_fit.false)
