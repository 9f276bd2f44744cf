-- Where the bus is not there, it is none of its kind.
use Rattle.std.proofs.Common.{sym, ◌∙◌}
use Rattle.qo_plug.proofs.BarLemmas.{no-memory, no-root}
use Rattle.qo_plug.proofs.checks.own_bus.Goals as goal

pub returns-then-is_slotted-clause-none : goal.returns-then-is_slotted-clause-none
returns-then-is_slotted-clause-none c =
    λ b s. no-root b c.args.kind c.args.heap.now s (sym c.is_slotted.ensures ∙ c.if-is_slotted.true) c.by_birth.result c.by_birth.ensures.none

pub returns-else-is_slotted-clause-none : goal.returns-else-is_slotted-clause-none
returns-else-is_slotted-clause-none c = λ b s. no-memory b c.args.kind c.args.heap.now s (sym c.is_slotted.ensures ∙ c.if-is_slotted.false)
    c.by_birth-else-is_slotted.result c.by_birth-else-is_slotted.ensures.none
