-- For proofs alone. What an error of a ring is as one of the rings of a board.
use Rattle.qo_chardev.specs.declared.ring.AddError.{AddError}
use Rattle.qo_chardev.specs.declared.ring.AddError.TheVariants as add
use Rattle.qo_chardev.specs.declared.ring.TakeError.{TakeError}
use Rattle.qo_chardev.specs.declared.ring.TakeError.TheVariants as take
use Rattle.qo_chardev.specs.declared.errors.RingAddError.{RingAddError}
use Rattle.qo_chardev.specs.declared.errors.RingAddError.TheVariants as adding
use Rattle.qo_chardev.specs.declared.errors.RingTakeError.{RingTakeError}
use Rattle.qo_chardev.specs.declared.errors.RingTakeError.TheVariants as taking

abbrev pub take_failure : TakeError → RingTakeError
take_failure take.NotAscii = taking.NotAscii
take_failure take.Memory = taking.Memory

abbrev pub add_failure : AddError → RingAddError
add_failure add.BadText = adding.BadText
