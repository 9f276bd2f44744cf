use Rattle.tests_objects.proofs.MomentLemmas.{make-tried}
use Rattle.tests_objects.proofs.clocks.with_object.Goals as goal

pub returns : goal.returns
returns g c = make-tried c.make.result c.args.heap c.make.new.self c.args.kind c.make.ensures.made c.make.ensures.err c.requires
