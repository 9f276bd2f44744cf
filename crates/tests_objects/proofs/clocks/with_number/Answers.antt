use Rattle.qo_values.specs.declared.properties.Val.TheVariants as val
use Rattle.qo_object.specs.declared.slots.Slot.TheVariants.{Plain}
use Rattle.tests_objects.proofs.MomentLemmas.{slot-tried}
use Rattle.tests_objects.proofs.clocks.with_number.Goals as goal

pub returns : goal.returns
returns g c =
    slot-tried c.add_plain.result c.args.heap c.add_plain.new.self c.in_ok-owner.owner.birth c.in_ok-name.name (Plain (val.Uint c.args.number))
    c.add_plain.ensures.added c.add_plain.ensures.err c.requires
