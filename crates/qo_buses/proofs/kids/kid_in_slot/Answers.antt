-- What stands at the place is read, and what it names is there.
use Rattle.std.proofs.Common.{◌≡◌, List, ℕ, Some, None, sym, ◌∙◌, rules}
use Rattle.qo_heap.specs.Rows.{IsLive}
use Rattle.qo_model.specs.Board.{Slot}
use Rattle.qo_model.specs.Devices.{strong_in}
use Rattle.qo_heap.proofs.HeapLemmas.{slot-live}
use Rattle.qo_buses.proofs.SlotLemmas.{read-at, same-named}
use Rattle.qo_buses.proofs.kids.kid_in_slot.Goals as goal

pub returns-in_err-view-clause-kid : goal.returns-in_err-view-clause-kid
returns-in_err-view-clause-kid g c = λ b s.
    let none : c.from_residual.result ≡ None = search rules in
    rw none (sym (read-at (λ (t : List ℕ × Slot). strong_in t.1) b c.args.heap.now s c.args.bus.birth c.args.at None c.in_err-view.ensures.slot))

pub returns-clause-kid : goal.returns-clause-kid
returns-clause-kid g c = λ b s.
    c.strong_in.ensures.target
    ∙ sym (read-at (λ (t : List ℕ × Slot). strong_in t.1) b c.args.heap.now s c.args.bus.birth c.args.at
    (Some (c.in_ok-view.view.name.now, c.in_ok-view.view.what.now)) c.in_ok-view.ensures.slot)

pub returns-clause-live : goal.returns-clause-live
returns-clause-live g c =
    same-named (IsLive c.args.heap.now.rows) c.in_ok-view.view.what.now c.strong_in.result c.strong_in.ensures.named
    (slot-live c.args.heap.now c.reveal_invariant.ensures c.args.bus.birth c.args.at (c.in_ok-view.view.name.now, c.in_ok-view.view.what.now)
    c.in_ok-view.ensures.slot)
