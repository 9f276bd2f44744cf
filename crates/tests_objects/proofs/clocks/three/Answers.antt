use Rattle.qo_object.specs.declared.slots.Slot.TheVariants.{Child}
use Rattle.tests_objects.proofs.MomentLemmas.{slot-tried}
use Rattle.tests_objects.proofs.clocks.three.Goals as goal

pub returns : goal.returns
returns g c =
    slot-tried c.add_child.result c.in_ok-heap-6.heap c.add_child.new.self c.in_ok-device.device.birth c.in_ok-name_of.field-0 (Child c.in_ok-clock.clock)
    c.add_child.ensures.added c.add_child.ensures.err c.in_ok-heap-6.ensures
