-- Those read, and after them those left.
use Rattle.std.proofs.Common.{◌≡◌, ◌++◌, drop, map}
use Rattle.qo_chardev.proofs.RingsLemmas.{row}
use Rattle.qo_chardev.proofs.rings.rows_of.Given as goal

abbrev pub invariant-loop-ring : goal.invariant-loop-ring
invariant-loop-ring l = l.rows.items ++ map row (drop l.ring-index l.rings) ≡ map row l.rings
