use Rattle.qo_plug.proofs.AttemptLemmas.{Reached}
use Rattle.qo_plug.proofs.failed_plug.act_buses.Given as goal

abbrev pub invariant-loop-place : goal.invariant-loop-place
invariant-loop-place g l = Reached l.act l.device.birth l.place l.fn.heap l.heap
