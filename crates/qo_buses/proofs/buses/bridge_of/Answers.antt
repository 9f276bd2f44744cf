-- The parent is read, where it is a device.
use Rattle.std.proofs.Common.{◌≡◌, Bool, Some, None, ap, sym, ◌∙◌, cond, rules}
use Rattle.qo_heap.proofs.HeapLemmas.{parent-live}
use Rattle.qo_buses.proofs.WayLemmas.{bridge-is}
use Rattle.qo_buses.proofs.buses.bridge_of.Goals as goal

pub returns-in_err-parent-clause-bridge : goal.returns-in_err-parent-clause-bridge
returns-in_err-parent-clause-bridge g c = λ b s.
    let none : c.from_residual.result ≡ None = search rules in
    rw none (sym (bridge-is b c.args.heap.now s c.args.bus.birth None (sym c.in_err-parent.ensures.parent)))

pub is_of-requires : goal.is_of-requires
is_of-requires g c = parent-live c.args.heap.now c.reveal_invariant.ensures c.args.bus.birth c.in_ok-parent.parent (sym c.in_ok-parent.ensures.parent)

pub returns-then-is_of-clause-bridge : goal.returns-then-is_of-clause-bridge
returns-then-is_of-clause-bridge g c = λ b s.
    sym (bridge-is b c.args.heap.now s c.args.bus.birth (Some c.in_ok-parent.parent) (sym c.in_ok-parent.ensures.parent)
    ∙ ap (λ (t : Bool). cond t (Some c.in_ok-parent.parent.birth) None) (sym (c.is_of.ensures.kind b s) ∙ c.if-is_of.true))

pub returns-then-is_of-clause-live : goal.returns-then-is_of-clause-live
returns-then-is_of-clause-live g c = parent-live c.args.heap.now c.reveal_invariant.ensures c.args.bus.birth c.in_ok-parent.parent (sym c.in_ok-parent.ensures.parent)

pub returns-clause-bridge : goal.returns-clause-bridge
returns-clause-bridge g c = λ b s.
    sym (bridge-is b c.args.heap.now s c.args.bus.birth (Some c.in_ok-parent.parent) (sym c.in_ok-parent.ensures.parent)
    ∙ ap (λ (t : Bool). cond t (Some c.in_ok-parent.parent.birth) None) (sym (c.is_of.ensures.kind b s) ∙ c.if-is_of.false))
