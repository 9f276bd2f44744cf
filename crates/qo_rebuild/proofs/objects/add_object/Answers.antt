-- The call is the step.
use Rattle.qo_shape.specs.Said.{object_said}
use Rattle.qo_rebuild.proofs.CallLemmas.{object-writes}
use Rattle.qo_rebuild.proofs.objects.add_object.Goals as goal

pub returns : goal.returns
returns g c = λ b s.
    object-writes b (object_said c.args.object.now) c.object_add.new.self c.object_add.result
    (rw (← c.as_str.ensures, ← c.as_str-2.ensures) (c.object_add.ensures.change b s))
