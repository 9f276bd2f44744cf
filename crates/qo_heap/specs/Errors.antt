-- For proofs alone. The errors of an object by itself, as the heap's.
use Rattle.qo_object.specs.declared.errors.AddError.{AddError}
use Rattle.qo_object.specs.declared.errors.AddError.TheVariants as add
use Rattle.qo_heap.specs.declared.errors.SlotError.{SlotError}
use Rattle.qo_heap.specs.declared.errors.SlotError.TheVariants as slot

-- the same error
abbrev pub slot_error : AddError → SlotError
slot_error add.Duplicate = slot.Duplicate
slot_error add.Memory = slot.Memory
