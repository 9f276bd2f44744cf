-- What is found by name is read, and what it names is there.
use Rattle.std.proofs.Common.{◌≡◌, Some, None, sym, ◌∙◌, rules}
use Rattle.std.specs.Str.{bytes_eq}
use Rattle.qo_heap.specs.Rows.{IsLive}
use Rattle.qo_object.specs.Slots.{Named}
use Rattle.qo_model.specs.Devices.{kid_name, strong_in}
use Rattle.qo_heap.proofs.HeapLemmas.{target-live}
use Rattle.qo_buses.proofs.SlotLemmas.{read-named, same-named}
use Rattle.qo_buses.proofs.kids.kid_at.Goals as goal

pub returns-in_err-view-clause-kid : goal.returns-in_err-view-clause-kid
returns-in_err-view-clause-kid g c = λ b s.
    let none : c.from_residual.result ≡ None = search rules in
    rw none (sym (read-named strong_in b c.args.heap.now s c.args.bus.birth (kid_name c.args.slot) None c.in_err-view.ensures.slot))

pub returns-clause-kid : goal.returns-clause-kid
returns-clause-kid g c = λ b s.
    c.strong_in.ensures.target
    ∙ sym (read-named strong_in b c.args.heap.now s c.args.bus.birth (kid_name c.args.slot)
    (Some (c.in_ok-view.view.name.now, c.in_ok-view.view.what.now)) c.in_ok-view.ensures.slot)

pub returns-clause-live : goal.returns-clause-live
returns-clause-live g c =
    same-named (IsLive c.args.heap.now.rows) c.in_ok-view.view.what.now c.strong_in.result c.strong_in.ensures.named
    (target-live c.args.heap.now c.reveal_invariant.ensures c.args.bus.birth (λ (t : Named). bytes_eq (kid_name c.args.slot) t.0)
    (c.in_ok-view.view.name.now, c.in_ok-view.view.what.now) c.in_ok-view.ensures.slot)
