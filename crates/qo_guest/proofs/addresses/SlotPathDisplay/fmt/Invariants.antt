use Rattle.std.proofs.Common.{take}
use Rattle.std.specs.Fmt.{HasWritten, IsPlainFormatter}
use Rattle.qo_guest.proofs.DottedSlots.{dotted}
use Rattle.qo_guest.proofs.addresses.SlotPathDisplay.fmt.Given as goal

abbrev pub invariant-loop-slot : goal.invariant-loop-slot
invariant-loop-slot g l =
    IsPlainFormatter l.initial.f → HasWritten g.W.Write.write_str_gives l.initial.f (dotted (take l.slot-index l.others)) l.f
