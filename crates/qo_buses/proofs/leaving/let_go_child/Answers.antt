-- The slot that is found is let go, or there is none.
use Rattle.std.proofs.Common.{ℕ, ap, sym, subst, ◌∙◌}
use Rattle.qo_object.specs.BoardObject.{shown_slots}
use Rattle.qo_heap.specs.Objects.{slots_of}
use Rattle.qo_model.specs.Objects.{index_from}
use Rattle.qo_model.specs.Release.{let_go}
use Rattle.qo_model.specs.Unplug.{is_child_slot}
use Rattle.qo_life.specs.Life.{Goes}
use Rattle.qo_buses.proofs.LeavingLemmas.{child-place, goes-go_none, goes-go_where, place-gone}
use Rattle.qo_buses.proofs.leaving.let_go_child.Goals as goal

pub returns-in_default : goal.returns-in_default
returns-in_default g c =
    goes-go_none (is_child_slot c.args.child) c.args.heap.now c.args.birth
    (place-gone (is_child_slot c.args.child) c.args.heap.now c.args.birth c.in_default.ensures.none)

pub returns-in_default-child_slot : goal.returns-in_default-child_slot
returns-in_default-child_slot g c =
    goes-go_none (is_child_slot c.args.child) c.args.heap.now c.args.birth
    (ap (λ (n : ℕ). index_from (is_child_slot c.args.child) 0 (shown_slots (slots_of c.args.heap.now n))) (sym c.in-Some.ensures.born)
    ∙ child-place c.args.child (slots_of c.args.heap.now c.in-Some.o.birth)
    ∙ sym c.in_default-child_slot.ensures.at)

pub returns : goal.returns
returns g c =
    goes-go_where (is_child_slot c.args.child) c.args.heap.now c.let_go.new.heap c.args.birth c.in-Some-child_slot.view.at
    (ap (λ (n : ℕ). index_from (is_child_slot c.args.child) 0 (shown_slots (slots_of c.args.heap.now n))) (sym c.in-Some.ensures.born)
    ∙ child-place c.args.child (slots_of c.args.heap.now c.in-Some.o.birth)
    ∙ sym c.in-Some-child_slot.ensures.at)
    (subst (λ (n : ℕ). Goes (λ b. let_go b n c.in-Some-child_slot.view.at) c.args.heap.now c.let_go.new.heap) c.in-Some.ensures.born c.let_go.ensures.goes)
