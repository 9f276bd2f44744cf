-- The slot that is found has the value, or there is none.
use Rattle.qo_model.specs.RowNames.{property_name}
use Rattle.qo_buses.proofs.LinkLemmas.{goes-set, goes-unset, set-live, set-pins}
use Rattle.qo_buses.proofs.writing.put_named.Goals as goal

pub returns-in_default-clause-goes : goal.returns-in_default-clause-goes
returns-in_default-clause-goes g c =
    goes-unset c.args.heap.now c.reveal_invariant.ensures c.args.o c.requires (property_name c.args.name) c.args.val c.in_default.ensures.at

pub returns-clause-goes : goal.returns-clause-goes
returns-clause-goes g c =
    rw c.set.ensures.now
    (goes-set c.args.heap.now c.reveal_invariant.ensures c.args.o c.requires (property_name c.args.name) c.args.val c.in-Some.view.at c.in-Some.ensures.at)

pub returns-clause-names : goal.returns-clause-names
returns-clause-names g c = λ key here.
    set-live c.args.heap.now c.reveal_invariant.ensures c.args.o c.requires (property_name c.args.name) c.set.new.self c.args.val c.in-Some.view.at c.set.ensures.now key
    here

pub returns-clause-pins : goal.returns-clause-pins
returns-clause-pins g c =
    set-pins c.args.heap.now c.reveal_invariant.ensures c.args.o c.requires (property_name c.args.name) c.set.new.self c.args.val c.in-Some.view.at c.set.ensures.now
