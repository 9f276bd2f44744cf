use Rattle.std.proofs.Common.{refl, sym}
use Rattle.qo_heap.proofs.WeakEnds.{linked-node}
use Rattle.qo_heap.proofs.entries.Entry.own_link.Goals as goal

pub returns-in_err-node-clause-none : goal.returns-in_err-node-clause-none
returns-in_err-node-clause-none c = absurd (linked-node c.args.self.now c.requires c.in_ok-at.at c.in_ok-at.ensures.place (sym c.in_err-node.ensures))

pub returns-clause-some : goal.returns-clause-some
returns-clause-some c =
    record { at = c.in_ok-at.at; node = c.in_ok-node.node; there = sym c.in_ok-node.ensures; named = c.in_ok-at.ensures.place; is = refl }
