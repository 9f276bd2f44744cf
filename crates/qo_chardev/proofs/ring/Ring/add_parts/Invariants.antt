-- Bytes of the text were added, and those of what is left are to come.
use Rattle.std.proofs.Common.{length}
use Rattle.qo_chardev.proofs.RingLemmas.{Added}
use Rattle.qo_chardev.proofs.ring.Ring.add_parts.Given as goal

abbrev pub invariant-loop-rest : goal.invariant-loop-rest
invariant-loop-rest l = Added l.fn.text l.rest l.fn.self l.self

abbrev pub decreases-loop-rest : goal.decreases-loop-rest
decreases-loop-rest l = length l.rest
