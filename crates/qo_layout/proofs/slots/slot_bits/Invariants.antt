-- The bits of the slots before this one are added.
use Rattle.std.proofs.Common.{◌≡◌, ◌*◌, ◌≤◌}
use Rattle.std.specs.List.{range_with_len, sum_by}
use Rattle.qo_layout.specs.Lines.{slot_bit}
use Rattle.qo_layout.specs.Rows.{slot_level}
use Rattle.qo_layout.proofs.slots.slot_bits.Given as goal

abbrev pub invariant-loop-slot : goal.invariant-loop-slot
invariant-loop-slot l = (l.bits ≡ sum_by (slot_bit (slot_level l.net l.slots)) (range_with_len 0 l.slot)) × (l.bits ≤ 128 * l.slot)
