use Rattle.std.proofs.Common.{rules, ◌≡◌, None, sym}
use Rattle.qo_heap.proofs.KeptEnds.{gone-parent}
use Rattle.qo_heap.proofs.heap.Heap.parent.Goals as goal

pub returns-in_err-there-clause-parent : goal.returns-in_err-there-clause-parent
returns-in_err-there-clause-parent g c =
    let none : c.from_residual.result ≡ None = search rules in
    rw none (sym (gone-parent c.args.self.now.rows c.reveal_invariant.ensures.linked c.args.o.birth c.in_err-there.ensures.none))
