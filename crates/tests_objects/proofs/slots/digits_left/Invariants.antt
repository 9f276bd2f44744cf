use Rattle.std.proofs.Common.{length}
use Rattle.tests_objects.proofs.slots.digits_left.Given as goal

abbrev pub decreases-loop-value : goal.decreases-loop-value
decreases-loop-value l = length l.rest
