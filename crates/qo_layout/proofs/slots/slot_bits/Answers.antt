-- A bit more.
use Rattle.std.proofs.Common.{◌+◌, ap, ℕ, arith}
use Rattle.qo_layout.specs.Lines.{slot_bit}
use Rattle.qo_layout.specs.Rows.{slot_level}
use Rattle.qo_layout.proofs.SlotLemmas.{bits-next}
use Rattle.qo_layout.proofs.slots.slot_bits.Goals as goal

pub loop-slot-preserved : goal.loop-slot-preserved
loop-slot-preserved c = (
  bits-next (slot_bit (slot_level c.args.net.now c.args.slots.now)) c.loop-slot.slot c.loop-slot.bits (c.loop-slot.bits + c.slot_bit-bits.result)
      c.loop-slot.invariant.0 (ap (λ (n : ℕ). c.loop-slot.bits + n) c.slot_bit-bits.ensures.bit),
  omega (arith, c.slot_bit-bits.ensures.most, c.loop-slot.invariant.1),
)
