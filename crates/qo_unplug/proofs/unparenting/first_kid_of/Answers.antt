-- A bus that is not there has no kid.
use Rattle.std.proofs.Common.{ap, ◌∙◌}
use Rattle.qo_object.specs.BoardObject.{birth_of}
use Rattle.qo_unplug.proofs.UnparentingLemmas.{no-bus}
use Rattle.qo_unplug.proofs.unparenting.first_kid_of.Goals as goal

pub returns-in_err-bus-clause-kid : goal.returns-in_err-bus-clause-kid
returns-in_err-bus-clause-kid g c = λ b s. ap birth_of c.from_residual.ensures ∙ no-bus c.args.heap.now c.args.bus c.in_err-bus.ensures.none b s
