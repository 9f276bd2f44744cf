-- The next number, and what is drawn of it.
use Rattle.std.proofs.Common.{refl}
use Rattle.qo_record.specs.Demo.{drawn}
use Rattle.qo_record.proofs.DemoLemmas.{next_is}
use Rattle.qo_record.proofs.demos.Draws.below_eight.Goals as goal

pub returns-clause-number : goal.returns-clause-number
returns-clause-number c = next_is c.args.self.now.number

pub returns-clause-drawn : goal.returns-clause-drawn
unfolding drawn
returns-clause-drawn c = refl
