use Rattle.std.proofs.Common.{false, None}
use Rattle.qo_values.specs.declared.kinds.TypeId.TheVariants.{Clock}
use Rattle.qo_object.specs.declared.slots.Slot.TheVariants.{Link}
use Rattle.tests_objects.proofs.MomentLemmas.{slot-tried}
use Rattle.tests_objects.proofs.clocks.with_link.Goals as goal

pub returns : goal.returns
returns g c =
    slot-tried c.add_link.result c.args.heap c.add_link.new.self c.in_ok-owner.owner.birth c.in_ok-name.name (Link Clock false None)
    c.add_link.ensures.added c.add_link.ensures.err c.requires
