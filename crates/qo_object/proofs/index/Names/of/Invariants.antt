use Rattle.std.proofs.Common.{◌≡◌, take}
use Rattle.qo_object.specs.Slots.{names_of}
use Rattle.qo_object.proofs.index.Names.of.Given as goal

abbrev pub invariant-loop-slot : goal.invariant-loop-slot
invariant-loop-slot l = l.names ≡ names_of (take l.slot-index l.slots)
