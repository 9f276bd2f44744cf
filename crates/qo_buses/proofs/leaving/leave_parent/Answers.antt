-- The containers are left one after the other.
use Rattle.qo_model.specs.Unplug.{is_child_slot, left_parent, let_go_where}
use Rattle.qo_life.proofs.TreeLemmas.{goes-names, goes-then}
use Rattle.qo_buses.proofs.leaving.leave_parent.Goals as goal

pub returns-clause-goes : goal.returns-clause-goes
returns-clause-goes g c =
    goes-then (let_go_where (is_child_slot c.args.dev.birth) 3) (let_go_where (is_child_slot c.args.dev.birth) 4) c.args.heap.now c.let_go_child.new.heap
    c.let_go_child-2.new.heap
    c.let_go_child.ensures c.let_go_child-2.ensures

pub returns-clause-names : goal.returns-clause-names
returns-clause-names g c =
    goes-names (left_parent c.args.dev.birth) c.args.heap.now c.let_go_child-2.new.heap
    (goes-then (let_go_where (is_child_slot c.args.dev.birth) 3) (let_go_where (is_child_slot c.args.dev.birth) 4) c.args.heap.now c.let_go_child.new.heap
    c.let_go_child-2.new.heap
    c.let_go_child.ensures c.let_go_child-2.ensures)
