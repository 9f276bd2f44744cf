-- The call is the step.
use Rattle.qo_shape.specs.Said.{ring_said}
use Rattle.qo_rebuild.proofs.CallLemmas.{ring-writes}
use Rattle.qo_rebuild.proofs.rings.add_ring.Goals as goal

pub returns : goal.returns
returns c = λ b s.
    ring-writes b (ring_said c.args.ring.now) c.chardev_add.new.self c.chardev_add.result (rw (← c.as_str.ensures) (c.chardev_add.ensures.change b s))
