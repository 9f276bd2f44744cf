use Rattle.std.proofs.Common.{◌≡◌}
use Rattle.qo_reset.proofs.WalkLemmas.{counted_to}
use Rattle.qo_reset.proofs.counts.recount.Given as goal

abbrev pub invariant-loop-hold : goal.invariant-loop-hold
invariant-loop-hold g l = l.count ≡ counted_to l.heap l.holds l.o.birth l.hold-index
