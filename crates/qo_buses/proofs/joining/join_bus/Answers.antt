-- The link is the board's.
use Rattle.std.proofs.Common.{true, Some}
use Rattle.qo_values.specs.declared.kinds.TypeId.TheVariants.{Device}
use Rattle.qo_object.specs.declared.slots.Slot.TheVariants.{Link}
use Rattle.qo_heap.proofs.BoardChanges.{shows-added}
use Rattle.qo_buses.proofs.joining.join_bus.Goals as goal

pub returns-clause-shown : goal.returns-clause-shown
returns-clause-shown g c = λ b s.
    rw c.in_ok-add_link.ensures.added (shows-added b c.args.heap.now s c.args.bus.birth c.args.name (Link Device true (Some c.args.dev)))
