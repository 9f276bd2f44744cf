use Rattle.tests_objects.proofs.MomentLemmas.{connected-timely}
use Rattle.tests_objects.proofs.clocks.connected.Goals as goal

pub returns : goal.returns
returns g c = connected-timely c.args.heap c.connect.new.heap c.in_ok-c.c.birth c.in_ok-source.source c.connect.ensures.now c.requires
