-- There are fewer members each time.
use Rattle.std.proofs.Common.{length}
use Rattle.qo_shape.proofs.members.+have_names.Given as goal

abbrev pub decreases-have_names : goal.decreases-have_names
decreases-have_names l = length l.members.now
